-- What comes of a command: its reply, what happens where it was accepted, and how many words of the source were
-- examined.
use Rattle.std.specs.Prelude.{ℕ, Bool, true, false, List, [], ◌∷◌, Option, Some, None, option_map}
use Rattle.hotel_model.specs.declared.reply.Reply.{Reply}
use Rattle.hotel_model.specs.declared.reply.Reply.TheVariants as reply
use Rattle.hotel_model.specs.declared.reply.Refusal.{Refusal}
use Rattle.hotel_model.specs.declared.reply.Refusal.TheVariants.{NoFreshCode}
use Rattle.hotel_model.specs.Words.{said_of}
use Rattle.hotel_model.specs.Event.{Event}
use Rattle.hotel_model.specs.History.{History, ◌▷◌}
use Rattle.keycard_rules.specs.Draw.{Draw, draw_from}
use Rattle.hotel_model.specs.Issued.{issued_codes}

-- What happens is an event of a history, or a change of rows.
pub record Outcome (X : Type 0) : Type 0 where
  pub reply : Reply
  pub happens : Option X
  pub examined : ℕ

-- The command is refused, and nothing happens.
abbrev pub refused : {X : Type 0} → Refusal → Outcome X
refused refusal = record { reply = reply.Refused refusal; happens = None; examined = 0 }

-- This is answered, and nothing happens.
abbrev pub said : {X : Type 0} → Reply → Outcome X
said reply = record { reply = reply; happens = None; examined = 0 }

-- This is answered, and this happens.
abbrev pub accepted : {X : Type 0} → Reply → X → Outcome X
accepted reply what = record { reply = reply; happens = Some what; examined = 0 }

-- the refusal, unless the case holds
abbrev pub needs : Bool → Refusal → Option Refusal
needs true refusal = None
needs false refusal = Some refusal

-- the refusal, where the case holds
abbrev pub bars : Bool → Refusal → Option Refusal
bars true refusal = Some refusal
bars false refusal = None

-- the first refusal of these, else what comes otherwise
abbrev pub unless : {X : Type 0} → List (Option Refusal) → Outcome X → Outcome X
unless [] otherwise = otherwise
unless (Some refusal ∷ checks) otherwise = refused refusal
unless (None ∷ checks) otherwise = unless checks otherwise

-- what comes of a draw: the reply and what happens with its code, or the refusal where it found none
abbrev pub by_draw : {X : Type 0} → Draw → (ℕ → Reply) → (ℕ → X) → Outcome X
by_draw draw reply_with happens_with = record {
  reply = said_of draw.code (reply.Refused NoFreshCode) reply_with;
  happens = option_map happens_with draw.code;
  examined = draw.examined;
}

-- the reply and the event of the first fresh code that these words give
abbrev pub with_fresh : History → List ℕ → (ℕ → Reply) → (ℕ → Event) → Outcome Event
with_fresh h words reply_with event_with = by_draw (draw_from (issued_codes h) words) reply_with event_with

-- the history after an event, where there is one
abbrev pub grown : History → Option Event → History
grown h (Some event) = h ▷ event
grown h None = h

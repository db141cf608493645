-- A fault harms only its door: at each other room what holds without faults.
use Rattle.std.proofs.Common.{ℕ, ◌≡◌, Bool, true, false, Option, Some, None, List, [], ◌∷◌, refl, ap, sym, ◌∙◌, subst}
use Rattle.std.proofs.Common.{◌==◌, ◌&&◌, ◌||◌, not, inl, inr, Contains}
use Rattle.hotel_model.proofs.Names.{when, turn, Card, Note, Event, Install, Issue, Refitted, Entered, Left, Recoded}
use Rattle.hotel_model.proofs.Names.{Moment, History, start, ◌▷◌, note_of, Reached}
use Rattle.hotel_model.proofs.Names.{InRange}
use Rattle.hotel_model.specs.declared.command.Command.TheVariants as command
use Rattle.keycard_rules.specs.declared.note.Act.TheVariants as act
use Rattle.hotel_lock.specs.Door.{acts, enters, leaves, is_set}
use Rattle.hotel_model.proofs.Facts.Follow.{MayFollow}
use Rattle.hotel_model.proofs.OfTables.Tests.{eq_from, either_way}
use Rattle.hotel_model.proofs.OfTables.Grown.{may_follow}
use Rattle.hotel_model.proofs.{OfTables.Insiders.insiders_in_order, RowsAfter.RowsRooms.eq_flip}
use Rattle.hotel_model.proofs.Invariants.{NoRooms.nothing_noted, InsideRooms.one_of_these, Assurance.assured}
use Rattle.hotel_building.specs.Building.{Building, opened, ◌▸◌, Accepted, Shown, GoesOut, SlipsOut, SetTo, Told, Fails}
use Rattle.hotel_building.specs.Building.{Forged, Door, new_door, refitted, shown, gone_out, slipped_out, was_set}
use Rattle.hotel_building.specs.Building.{heard}
use Rattle.hotel_building.specs.Building.{door, desk, at_once, event_of, after_first, after_act, LeavesNothing, MaySet}
use Rattle.hotel_building.specs.Faults.{is_bad, room_at_once, ReachableBut, FaultsHarmTheirDoors, NoFaultIsOne}
use Rattle.hotel_building.proofs.Quiet.{SameCommands, same_books, noted_quiet}
use Rattle.hotel_building.proofs.Taken.{reached_noted}
use Rattle.hotel_building.proofs.Grows.{Grows, grows_event, grows_same}
use Rattle.hotel_building.proofs.Alike.{Alike, alike_self, alike_back, alike_on, alike_more, keeps_by, untouched}
use Rattle.hotel_building.proofs.Alike.{touches}
use Rattle.hotel_building.proofs.Alike.{Ordered, ordered_more, KeepsLock}
use Rattle.hotel_building.proofs.Replays.{Replays, may_along, touches_by}
use Rattle.hotel_building.proofs.Agrees.{agrees_first, agrees_installed, agrees_refitted, agrees_slipped}
use Rattle.hotel_building.proofs.AtDoor.{AtDoor, card_given, did, set_by, elsewhere_at_both, told_here, slipped_here}
use Rattle.hotel_building.proofs.AtDoor.{shown_here, left_here, set_here, may_leave, may_be_set}
use Rattle.hotel_building.proofs.Whole.{RoomIs, Whole, whole, counted, all_accept, more_commands, none_yet}
use Rattle.hotel_building.proofs.Whole.{alike_anew, alike_new}
use Rattle.hotel_building.proofs.Whole.{can_make, known_to_all, reached_act, reached_set, other_lock, told_whole}
use Rattle.hotel_building.proofs.Promise.{promised_at, promised_of}

-- At a room: the desk and the history of all the room's notes can be reached, by the same commands; the door is as they
-- say; and each other room is alike by both.
record Kept (r : ℕ) (d t : History) (o : Door) : Type 0 where
  all_ok : Reached t
  same : SameCommands d t
  here : AtDoor r d t o
  others : (s : ℕ) → (r == s) ≡ false → Alike s d t

abbrev KeptBy : Building → ℕ → Type 0
KeptBy b r = Kept r (desk b) (room_at_once b r) (door b r)

-- ---- steps at the desk

-- an event that is none of the room's, at both
kept_both : (r : ℕ) (d t : History) (o : Door) (e : Event) → Reached d → Reached (t ▷ e) → SameCommands (d ▷ e) (t ▷ e)
    → Grows d (d ▷ e) → touches e r ≡ false
    → ((s : ℕ) → (r == s) ≡ false → Alike s d t → Alike s (d ▷ e) (t ▷ e)) → Kept r d t o → Kept r (d ▷ e) (t ▷ e) o
kept_both r d t o e ok ok' q g f alike k =
    let s = insiders_in_order d ok in
    let s' = insiders_in_order t k.all_ok in
    record {
      all_ok = ok';
      same = q;
      here = elsewhere_at_both r d t o e s s' f g (ordered_more d e s) k.here;
      others = λ z m. alike z m (k.others z m);
    }

-- a new lock: the room begins anew
kept_anew : (r : ℕ) (h : History) (o : Door) → Reached h → AtDoor r h h o → Kept r h h o
kept_anew r h o ok i = record { all_ok = ok; same = refl; here = i; others = λ s m. alike_self s h }

-- another room's new lock, at both
refitted_at : (d t : History) (room fit code s : ℕ) → Reached (d ▷ Refitted room fit code)
    → Reached (t ▷ Refitted room fit code) → SameCommands d t → Alike s d t
    → Alike s (d ▷ Refitted room fit code) (t ▷ Refitted room fit code)
refitted_at d t room fit code s ok ok' q a =
    let e = Refitted room fit code in
    elim (either_way (room == s)) [
      | inl m ↦ subst (λ z. Alike z (d ▷ e) (t ▷ e)) (eq_from room s m)
          (alike_anew d t room fit code ((same_books d t q).same_issued room) (none_yet d room fit code ok)
          (none_yet t room fit code ok'))
      | inr f ↦ alike_on s _ _ _ (untouched d e s (insiders_in_order d ok.0) f)
          (alike_on s _ _ _ a (alike_back s _ _ (untouched t e s (insiders_in_order t ok'.0) f)))
    ]

installed_at : (d t : History) (room : ℕ) (kind : List ℕ) (code s : ℕ) → Reached (d ▷ Install room kind code)
    → Reached (t ▷ Install room kind code) → Alike s d t
    → Alike s (d ▷ Install room kind code) (t ▷ Install room kind code)
installed_at d t room kind code s ok ok' a =
    let e = Install room kind code in
    elim (either_way (room == s)) [
      | inl m ↦ subst (λ z. Alike z (d ▷ e) (t ▷ e)) (eq_from room s m)
          (alike_new d t room kind code (nothing_noted d ok.0 room (may_follow d e ok).1)
          (nothing_noted t ok'.0 room (may_follow t e ok').1)
          (subst (λ z. Alike z d t) (sym (eq_from room s m)) a))
      | inr f ↦ alike_on s _ _ _ (untouched d e s (insiders_in_order d ok.0) f)
          (alike_on s _ _ _ a (alike_back s _ _ (untouched t e s (insiders_in_order t ok'.0) f)))
    ]

-- an event that brings no lock, at both
others_more : (d t : History) (e : Event) → KeepsLock e → Reached d → Reached t → (s : ℕ) → Alike s d t
    → Alike s (d ▷ e) (t ▷ e)
others_more d t e k ok ok' s a = alike_more d t e s k (insiders_in_order d ok) (insiders_in_order t ok') a

-- a room after the desk accepted a command
kept_accepted : (b : Building) (e : Event) (r : ℕ) → note_of e ≡ None → Reached (desk b ▷ e)
    → ((t : History) → SameCommands (desk b) t → Reached t → Reached (t ▷ e)) → LeavesNothing b e
    → ((s : ℕ) → is_bad b s ≡ false → KeptBy b s) → is_bad (b ▸ Accepted e) r ≡ false → KeptBy (b ▸ Accepted e) r
kept_accepted b (Install room kind code) r n ok accept leaves kept good = by (room == r) refl good
  where
    by : (z : Bool) → (room == r) ≡ z → (not z && is_bad b r) ≡ false
        → Kept r (desk b ▷ Install room kind code)
        (when z (λ _. desk b) (room_at_once b r) ▷ Install room kind code) (when z (λ _. new_door room code) (door b r))
    by true m g =
        let h : History = desk b ▷ Install room kind code in
        subst (λ z. Kept z h h (new_door room code)) (eq_from room r m)
        (kept_anew room h (new_door room code) ok (record {
          replays = tt;
          alike = alike_self room h;
          agrees = agrees_installed (desk b) room kind code ok;
        }))
    by false f g =
        let e : Event = Install room kind code in
        let k = kept r g in
        let t = room_at_once b r in
        let ok' = accept t k.same k.all_ok in
        kept_both r (desk b) t (door b r) e ok.0 ok' (more_commands (desk b) t e k.same n)
        (grows_event (desk b) e ok) f (λ s m a. installed_at (desk b) t room kind code s ok ok' a) k
kept_accepted b (Refitted room fit code) r n ok accept leaves kept good = by (room == r) refl good
  where
    by : (z : Bool) → (room == r) ≡ z → (not z && is_bad b r) ≡ false
        → Kept r (desk b ▷ Refitted room fit code)
        (when z (λ _. desk b) (room_at_once b r) ▷ Refitted room fit code) (when z (refitted room fit code) (door b r))
    by true m g =
        let h : History = desk b ▷ Refitted room fit code in
        subst (λ z. Kept z h h (refitted room fit code (door b z))) (eq_from room r m)
        (kept_anew room h (refitted room fit code (door b room)) ok (record {
          replays = tt;
          alike = alike_self room h;
          agrees = agrees_refitted (desk b) room fit code (door b room) ok leaves;
        }))
    by false f g =
        let e : Event = Refitted room fit code in
        let k = kept r g in
        let t = room_at_once b r in
        let ok' = accept t k.same k.all_ok in
        kept_both r (desk b) t (door b r) e ok.0 ok' (more_commands (desk b) t e k.same n)
        (grows_event (desk b) e ok) f (λ s m a. refitted_at (desk b) t room fit code s ok ok' k.same a) k
kept_accepted b (Issue party room number code) r n ok accept leaves kept good =
    let e : Event = Issue party room number code in
    let k = kept r good in
    let t = room_at_once b r in
    let ok' = accept t k.same k.all_ok in
    let s = insiders_in_order (desk b) ok.0 in
    let s' = insiders_in_order t k.all_ok in
    let needs = may_follow (desk b) e ok in
    let more = others_more (desk b) t e tt ok.0 k.all_ok in
    elim (either_way (room == r)) [
      | inl m ↦ record {
        all_ok = ok';
        same = more_commands (desk b) t e k.same n;
        here = subst (λ z. AtDoor r (desk b ▷ Issue party z number code) (t ▷ Issue party z number code) (door b r))
            (sym (eq_from room r m))
            (card_given r (desk b) t (door b r) party number code ok.0 s s' needs.6 needs.5 k.here);
        others = λ z m. more z (k.others z m);
      }
      | inr f ↦ kept_both r (desk b) t (door b r) e ok.0 ok' (more_commands (desk b) t e k.same n)
          (grows_event (desk b) e ok) f (λ z m a. more z a) k
    ]
kept_accepted b (Entered room fit count number link at) r n ok accept leaves kept good = absurd (let m = n in cc)
kept_accepted b (Left room fit count number link at) r n ok accept leaves kept good = absurd (let m = n in cc)
kept_accepted b (Recoded room fit count from to at) r n ok accept leaves kept good = absurd (let m = n in cc)
kept_accepted b e r n ok accept leaves kept good =
    let k = kept r good in
    let t = room_at_once b r in
    kept_both r (desk b) t (door b r) e ok.0 (accept t k.same k.all_ok) (more_commands (desk b) t e k.same n)
    (grows_event (desk b) e ok) refl (λ z m a. others_more (desk b) t e tt ok.0 k.all_ok z a) k

-- another room's note, at both
kept_note : (r : ℕ) (d t : History) (o : Door) (x : Note) → Reached d → MayFollow d (event_of x) → InRange (event_of x)
    → (x.room == r) ≡ false → (r == x.room) ≡ false → Kept r d t o → Kept r (d ▷ event_of x) (t ▷ event_of x) o
kept_note r d t o x ok may range f f' k =
    let may' = may_along x.room d t x refl (k.others x.room f') (grows_same d t k.same) may in
    kept_both r d t o (event_of x) ok (reached_noted t k.all_ok x may' range)
    (noted_quiet d x ∙ k.same ∙ sym (noted_quiet t x)) (grows_same d (d ▷ event_of x) (sym (noted_quiet d x)))
    (touches_by x x.act r ∙ f) (λ s m a. others_more d t (event_of x) (keeps_by x x.act) ok k.all_ok s a) k

kept_first : (room r : ℕ) (d t : History) (o : Door) (xs : List Note) → Reached d → Replays room d xs
    → (room == r) ≡ false → Kept r d t o → Kept r (after_first d xs) (after_first t xs) o
kept_first room r d t o [] ok p f k = k
kept_first room r d t o (x ∷ xs) ok p f k =
    let g = other_lock room r x.room p.0 f in kept_note r d t o x ok p.1 p.2 g (eq_flip x.room r g) k

-- the desk hears a note of the room
told_others : (r s : ℕ) (d t : History) (xs : List Note) → Ordered d → Replays r d xs → (r == s) ≡ false → Alike s d t
    → Alike s (after_first d xs) t
told_others r s d t [] o p f a = a
told_others r s d t (x ∷ xs) o p f a =
    alike_on s _ _ _ (untouched d (event_of x) s o (touches_by x x.act s ∙ other_lock r s x.room p.0 f)) a

kept_told : (r : ℕ) (d t : History) (o : Door) → Reached d → Kept r d t o
    → Kept r (after_first d o.unread) t (heard o)
kept_told r d t o ok k = record {
  all_ok = k.all_ok;
  same = (told_whole r d o.unread ok k.here.replays).1 ∙ k.same;
  here = told_here r d t o k.here;
  others = λ s f. told_others r s d t o.unread (insiders_in_order d ok) k.here.replays f (k.others s f);
}

-- ---- steps at the door

-- what the lock did is nothing to other rooms
act_others : (r s : ℕ) (d t : History) (o : Door) (card : Card) (at : Moment) (turned : Option ℕ) → Ordered t
    → o.lock.room ≡ r → (r == s) ≡ false → Alike s d t → Alike s d (after_act t (did o card at turned))
act_others r s d t o card at None w e f a = a
act_others r s d t o card at (Some code) w e f a =
    let x = (acts o.lock (act.Entered card.number card.link) code at).note in
    alike_on s _ _ _ a (alike_back s _ _ (untouched t (event_of x) s w (other_lock r s o.lock.room e f)))

set_others : (r s : ℕ) (d t : History) (o : Door) (code : ℕ) (at : Moment) (same : Bool) → Ordered t
    → o.lock.room ≡ r → (r == s) ≡ false → Alike s d t → Alike s d (after_act t (set_by o code at same))
set_others r s d t o code at true w e f a = a
set_others r s d t o code at false w e f a =
    let x = (acts o.lock (act.Recoded o.lock.held code) code at).note in
    alike_on s _ _ _ a (alike_back s _ _ (untouched t (event_of x) s w (other_lock r s o.lock.room e f)))

-- a step at a door changes its room, or keeps another one
at_step : (d : History) (ts : ℕ → History) (os : ℕ → Door) (F : History → History) (G : Door → Door) (room r : ℕ)
    (bad : ℕ → Bool) → ((s : ℕ) → bad s ≡ false → Kept s d (ts s) (os s))
    → (bad room ≡ false → Kept room d (F (ts room)) (G (os room))) → bad r ≡ false
    → Kept r d (when (room == r) F (ts r)) (when (room == r) G (os r))
at_step d ts os F G room r bad kept here good = by (room == r) refl
  where
    by : (z : Bool) → (room == r) ≡ z → Kept r d (when z F (ts r)) (when z G (os r))
    by true m =
        let e = eq_from room r m in
        subst (λ z. Kept z d (F (ts z)) (G (os z))) e (here (ap bad e ∙ good))
    by false f = kept r good

-- ---- all steps

record WholeBut (b : Building) : Type 0 where
  desk_ok : Reached (desk b)
  rooms : (r : ℕ) → is_bad b r ≡ false → KeptBy b r

-- a room that isn't bad after another one may be
others_good : (room r : ℕ) (c : Bool) → ((room == r) || c) ≡ false → ((room == r) ≡ false) × (c ≡ false)
others_good room r c e = by (room == r) e
  where
    by : (z : Bool) → (z || c) ≡ false → (z ≡ false) × (c ≡ false)
    by true q = cc
    by false q = (refl, q)

whole_but : (b : Building) → ReachableBut b → WholeBut b
whole_but (opened t) ok = record {
  desk_ok = ok;
  rooms = λ r good. kept_anew r (start t) (door (opened t) r) ok
      (record { replays = tt; alike = alike_self r (start t); agrees = agrees_first (start t) r });
}
whole_but (b ▸ Accepted e) ok =
    let w = whole_but b ok.0 in
    let may = ok.1.0 in
    let desk_ok : Reached (desk b ▷ e) = (w.desk_ok, may.1, may.2, may.3, may.4) in
    record {
      desk_ok = desk_ok;
      rooms = λ r good. kept_accepted b e r may.0 desk_ok
          (λ t same all_ok. all_accept (desk b) t e same all_ok may.0 may.1 may.2 may.3 may.4) ok.1.1 w.rooms good;
    }
whole_but (b ▸ Shown room card at) ok =
    let w = whole_but b ok.0 in
    let d = desk b in
    let o = door b room in
    let t = room_at_once b room in
    let turned = turn o.lock.held card.link in
    record {
      desk_ok = w.desk_ok;
      rooms = λ r good. at_step d (room_at_once b) (door b)
          (λ h. after_act h (enters o.lock card.number card.link at))
          (λ d. shown (enters d.lock card.number card.link at) card.number d) room r (is_bad b) w.rooms
          (λ g. let k = w.rooms room g in
          let can = can_make b t room at k.all_ok k.same ok.1.1 in
          let known = known_to_all b t card k.same ok.1.0 in
          let s' = insiders_in_order t k.all_ok in
          let after = reached_act room d t o card at turned refl k.all_ok k.same can known k.here.agrees in
          record {
            all_ok = after.0;
            same = after.1;
            here = shown_here room d t o card at turned refl (insiders_in_order d w.desk_ok) s' k.same can known
                k.here;
            others = λ s f. act_others room s d t o card at turned s' k.here.agrees.its_room f (k.others s f);
          }) good;
    }
whole_but (b ▸ GoesOut room card at) ok =
    let w = whole_but b ok.0 in
    let d = desk b in
    let o = door b room in
    let t = room_at_once b room in
    let it = leaves o.lock card.number card.link at in
    record {
      desk_ok = w.desk_ok;
      rooms = λ r good. at_step d (room_at_once b) (door b) (λ h. h ▷ event_of it.note)
          (λ d. gone_out (leaves d.lock card.number card.link at) card.number d) room r (is_bad b) w.rooms
          (λ g. let k = w.rooms room g in
          let can = can_make b t room at k.all_ok k.same ok.1.1 in
          let known = known_to_all b t card k.same ok.1.0 in
          let s' = insiders_in_order t k.all_ok in
          let may = may_leave room t o card at can known (counted card.number o ok.1.2) k.here.agrees in
          record {
            all_ok = reached_noted t k.all_ok it.note may.0 may.1;
            same = k.same ∙ sym (noted_quiet t it.note);
            here = left_here room d t o card at (insiders_in_order d w.desk_ok) s' k.same may k.here;
            others = λ s f. alike_on s _ _ _ (k.others s f) (alike_back s _ _ (untouched t (event_of it.note) s s'
                (other_lock room s o.lock.room k.here.agrees.its_room f)));
          }) good;
    }
whole_but (b ▸ SlipsOut room number) ok =
    let w = whole_but b ok.0 in
    let o = door b room in
    let t = room_at_once b room in
    record {
      desk_ok = w.desk_ok;
      rooms = λ r good. at_slip b number room r w.rooms
          (λ g. let k = w.rooms room g in
          record {
            all_ok = k.all_ok;
            same = k.same;
            here = slipped_here room (desk b) t o number k.here
                (agrees_slipped t room number o (one_of_these o.inside number ok.1) k.here.agrees);
            others = k.others;
          }) good;
    }
  where
    at_slip : (b : Building) (number room r : ℕ) → ((s : ℕ) → is_bad b s ≡ false → KeptBy b s)
        → (is_bad b room ≡ false → Kept room (desk b) (room_at_once b room) (slipped_out number (door b room)))
        → is_bad b r ≡ false → Kept r (desk b) (room_at_once b r) (when (room == r) (slipped_out number) (door b r))
    at_slip b number room r kept here good = by (room == r) refl
      where
        by : (z : Bool) → (room == r) ≡ z
            → Kept r (desk b) (room_at_once b r) (when z (slipped_out number) (door b r))
        by true m =
            let e = eq_from room r m in
            subst (λ z. Kept z (desk b) (room_at_once b z) (slipped_out number (door b z))) e
            (here (ap (is_bad b) e ∙ good))
        by false f = kept r good
whole_but (b ▸ SetTo room code at) ok =
    let w = whole_but b ok.0 in
    let d = desk b in
    let o = door b room in
    let t = room_at_once b room in
    let same = o.lock.held == code in
    record {
      desk_ok = w.desk_ok;
      rooms = λ r good. at_step d (room_at_once b) (door b) (λ h. after_act h (is_set o.lock code at))
          (λ d. was_set (is_set d.lock code at) d) room r (is_bad b) w.rooms
          (λ g. let k = w.rooms room g in
          let can = can_make b t room at k.all_ok k.same ok.1.0 in
          let s' = insiders_in_order t k.all_ok in
          let may = may_be_set room t o code at can ok.1.1 k.here.agrees in
          let after = reached_set d t o code at same k.all_ok k.same may in
          record {
            all_ok = after.0;
            same = after.1;
            here = set_here room d t o code at same (insiders_in_order d w.desk_ok) s' k.same may k.here;
            others = λ s f. set_others room s d t o code at same s' k.here.agrees.its_room f (k.others s f);
          }) good;
    }
whole_but (b ▸ Told room) ok =
    let w = whole_but b ok.0 in
    let d = desk b in
    let o = door b room in
    let its = w.rooms room ok.1 in
    record {
      desk_ok = (told_whole room d o.unread w.desk_ok its.here.replays).0;
      rooms = λ r good. by_told b room r w.desk_ok its (w.rooms r good);
    }
  where
    by_told : (b : Building) (room r : ℕ) → Reached (desk b) → KeptBy b room → KeptBy b r
        → Kept r (after_first (desk b) (door b room).unread)
        (when (not (room == r)) (λ h. after_first h (door b room).unread) (room_at_once b r))
        (when (room == r) heard (door b r))
    by_told b room r ok its k = by (room == r) refl
      where
        by : (z : Bool) → (room == r) ≡ z → Kept r (after_first (desk b) (door b room).unread)
            (when (not z) (λ h. after_first h (door b room).unread) (room_at_once b r)) (when z heard (door b r))
        by true m =
            subst (λ z. Kept z (after_first (desk b) (door b room).unread) (room_at_once b z) (heard (door b z)))
            (eq_from room r m) (kept_told room (desk b) (room_at_once b room) (door b room) ok its)
        by false f =
            kept_first room r (desk b) (room_at_once b r) (door b r) (door b room).unread ok its.here.replays f k
whole_but (b ▸ Fails room after) ok =
    let w = whole_but b ok.0 in
    record {
      desk_ok = w.desk_ok;
      rooms = λ r bad. let g = others_good room r (is_bad b r) bad in
          subst (λ z. Kept r (desk b) (room_at_once b r) (when z (λ _. after) (door b r))) (sym g.0) (w.rooms r g.1);
    }
whole_but (b ▸ Forged note) ok =
    let w = whole_but b ok.0 in
    let desk_ok : Reached (desk b ▷ event_of note) =
    (w.desk_ok, ok.1.0, command.Reported note, ok.1.1, ok.1.2) in
    record {
      desk_ok = desk_ok;
      rooms = λ r bad. let g = others_good note.room r (is_bad b r) bad in
          kept_note r (desk b) (room_at_once b r) (door b r) note w.desk_ok
          (may_follow (desk b) (event_of note) desk_ok) ok.1.2 g.0 (eq_flip note.room r g.0) (w.rooms r g.1);
    }

pub room_but : (b : Building) → ReachableBut b → (r : ℕ) → is_bad b r ≡ false → RoomIs b (room_at_once b r) r
room_but b ok r good =
    let w = whole_but b ok in
    let k = w.rooms r good in
    record { desk_ok = w.desk_ok; all_ok = k.all_ok; same = k.same; here = k.here }

pub faults_harm_their_doors : FaultsHarmTheirDoors
faults_harm_their_doors b ok =
    let w = whole_but b ok in (
      w.desk_ok,
      assured (desk b) w.desk_ok,
      λ r good. let k = room_but b ok r good in (
        promised_of b (room_at_once b r) w.desk_ok k.all_ok k.same,
        promised_at b (room_at_once b r) r k,
      ),
    )

-- ---- buildings without faults

none_and : (c : Bool) → (c && false) ≡ false
none_and true = refl
none_and false = refl

pub not_bad : (b : Building) (e : Event) (r : ℕ) → is_bad b r ≡ false → is_bad (b ▸ Accepted e) r ≡ false
not_bad b (Install room kind code) r q = ap (λ c. not (room == r) && c) q ∙ none_and (not (room == r))
not_bad b (Refitted room fit code) r q = ap (λ c. not (room == r) && c) q ∙ none_and (not (room == r))
not_bad b e r q = q

-- staff may set the same codes by the notes of all rooms, and by those of the one
may_set : (b : Building) (room code : ℕ) → Whole b → WholeBut b → is_bad b room ≡ false
    → MaySet (at_once b) (door b room) room code → MaySet (room_at_once b room) (door b room) room code
may_set b room code w v good (inl e) = inl e
may_set b room code w v good (inr c) =
    inr (subst (λ cs. Contains cs code) (sym (w.doors room).alike.same_awaited
    ∙ (v.rooms room good).here.alike.same_awaited) c)

pub no_fault_is_one : NoFaultIsOne
no_fault_is_one (opened t) ok = (ok, λ r. refl)
no_fault_is_one (b ▸ Accepted e) ok =
    let n = no_fault_is_one b ok.0 in ((n.0, ok.1), λ r. not_bad b e r (n.1 r))
no_fault_is_one (b ▸ SetTo room code at) ok =
    let n = no_fault_is_one b ok.0 in (
      (n.0, (ok.1.0, may_set b room code (whole b ok.0) (whole_but b n.0) (n.1 room) ok.1.1)),
      n.1,
    )
no_fault_is_one (b ▸ Told room) ok = let n = no_fault_is_one b ok.0 in ((n.0, n.1 room), n.1)
no_fault_is_one (b ▸ Fails room after) ok = elim ok.1 [ ]
no_fault_is_one (b ▸ Forged note) ok = elim ok.1 [ ]
no_fault_is_one (b ▸ step) ok = let n = no_fault_is_one b ok.0 in ((n.0, ok.1), n.1)

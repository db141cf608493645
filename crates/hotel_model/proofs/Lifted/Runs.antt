-- Runs: one after the other, one command more, and that they are determined where nothing failed.
use Rattle.std.proofs.Common.{◌≡◌, Bool, true, false, Option, Some, None, List, [], ◌∷◌, ◌++◌, refl, ap, sym, ◌∙◌}
use Rattle.std.proofs.Common.{subst, All, option_map}
use Rattle.hotel_model.proofs.Names.{All-head, All-tail, Stream, words, past, Command, Reply, Rows, Event, History}
use Rattle.hotel_model.proofs.Names.{rows_of, Outcome, grown, change_of, outcome_on, made_by, GoesIf, Goes, Reached}
use Rattle.hotel_model.proofs.Names.{StandsFor, answered, is_failed, StepsIf, Steps, Runs, IsCommand, IsReply, RunsTo}
use Rattle.hotel_model.proofs.Names.{NoneFailed, as_change}
use Rattle.hotel_model.proofs.{Invariants.EventRanges.step_keeps, RowsAfter.RowsFollow.made_follow}
use Rattle.hotel_model.proofs.{Lifted.LiftAll.answers_lift}

-- a run after a run
pub runs_join : (h mid h' : History) (s source s' : Stream) (commands later : List Command) (replies more : List Reply)
    → Runs h s commands replies mid source
    → Runs mid source later more h' s' → Runs h s (commands ++ later) (replies ++ more) h' s'
runs_join h mid h' s source s' [] later [] more r d =
    subst (λ z. Runs z s later more h' s') r.0 (subst (λ z. Runs mid z later more h' s') r.1 d)
runs_join h mid h' s source s' (c ∷ commands) later (p ∷ replies) more r d =
    (r.0, r.1, r.2, runs_join r.0 mid h' r.1 source s' commands later replies more r.3 d)
runs_join h mid h' s source s' [] later (p ∷ replies) more r d = absurd r
runs_join h mid h' s source s' (c ∷ commands) later [] more r d = absurd r

-- the rows after what happened
grown_rows : (h : History) (o : Option Event)
    → Reached (grown h o) → rows_of (grown h o) ≡ made_by (option_map (λ e. change_of h e) o) (rows_of h)
grown_rows h None ok = refl
grown_rows h (Some event) ok = made_follow h event ok

-- a step over the rows of a history, where the outcome is the answer's
step_by : (b : Bool) (h : History) (s : Stream) (command : Command) (reply : Reply) (later : Rows) (rest : Stream)
    → Reached h → IsCommand command → IsReply reply
    → GoesIf b (as_change h (answered h s command)) (rows_of h) s reply later rest
    → (h' : History) × StandsFor h' later × StepsIf b h s command reply h' rest
step_by true h s command reply later rest ok n r g = (h, (ok, g.0), (refl, g.1))
step_by false h s command reply later rest ok n r g =
    let o : Outcome Event = answered h s command in
    let ok' : Reached (grown h o.happens) = step_keeps h (words 64 s) command reply n (sym g.0) r ok in
    (grown h o.happens, (ok', g.1 ∙ sym (grown_rows h o.happens ok')), (g.0, refl, g.2))

-- A step over books whose rows stand for a history is a step from that history.
pub steps_lift : (h : History) (rows : Rows) (s : Stream) (command : Command) (reply : Reply) (later : Rows)
    (rest : Stream) → StandsFor h rows → IsCommand command → IsReply reply
    → Goes (outcome_on rows (words 64 s) command) rows s reply later rest
    → (h' : History) × StandsFor h' later × Steps h s command reply h' rest
steps_lift h rows s command reply later rest stands n r g =
    let on_history : Goes (outcome_on (rows_of h) (words 64 s) command) (rows_of h) s reply later rest =
    subst (λ z. Goes (outcome_on z (words 64 s) command) z s reply later rest) stands.1 g in
    step_by (is_failed reply) h s command reply later rest stands.0 n r
    (subst (λ o. Goes o (rows_of h) s reply later rest) (answers_lift h command stands.0 n (words 64 s)) on_history)

-- A command with values in their ranges leads to a history that can be reached.
pub step_reaches : (b : Bool) (h : History) (s : Stream) (command : Command) (reply : Reply) (h' : History)
    (s' : Stream) → Reached h → IsCommand command → IsReply reply → StepsIf b h s command reply h' s' → Reached h'
step_reaches true h s command reply h' s' ok n r d = subst (λ z. Reached z) (sym d.0) ok
step_reaches false h s command reply h' s' ok n r d =
    subst (λ z. Reached z) (sym d.1) (step_keeps h (words 64 s) command reply n (sym d.0) r ok)

pub runs_reach : (h h' : History) (s s' : Stream) (commands : List Command) (replies : List Reply)
    → Reached h → All IsCommand commands → All IsReply replies → Runs h s commands replies h' s' → Reached h'
runs_reach h h' s s' [] [] ok n a r = subst (λ z. Reached z) (sym r.0) ok
runs_reach h h' s s' (c ∷ commands) (p ∷ replies) ok n a r =
    runs_reach r.0 h' r.1 s' commands replies
    (step_reaches (is_failed p) h s c p r.0 r.1 ok (All-head IsCommand c commands n) (All-head IsReply p replies a) r.2)
    (All-tail IsCommand c commands n) (All-tail IsReply p replies a) r.3
runs_reach h h' s s' [] (p ∷ replies) ok n a r = absurd r
runs_reach h h' s s' (c ∷ commands) [] ok n a r = absurd r

-- a step that didn't fail
step_done : (h : History) (s : Stream) (command : Command) (reply : Reply) (h' : History) (s' : Stream)
    → is_failed reply ≡ false → Steps h s command reply h' s' → StepsIf false h s command reply h' s'
step_done h s command reply h' s' n d = subst (λ b. StepsIf b h s command reply h' s') n d

first_reply_same : (p q : Reply) (replies replies' : List Reply)
    → p ≡ q → replies ≡ replies' → p ∷ replies ≡ q ∷ replies'
first_reply_same p q replies replies' e f = cc

same_runs : (h k : History) (s t : Stream) (commands : List Command) (replies replies' : List Reply) (h' k' : History)
    (s' t' : Stream) → h ≡ k → s ≡ t → NoneFailed replies → NoneFailed replies'
    → Runs h s commands replies h' s' → Runs k t commands replies' k' t' → (replies ≡ replies') × (h' ≡ k') × (s' ≡ t')
same_runs h k s t [] [] [] h' k' s' t' e f n n' r r' = (refl, r.0 ∙ e ∙ sym r'.0, r.1 ∙ f ∙ sym r'.1)
same_runs h k s t (c ∷ commands) (p ∷ replies) (q ∷ replies') h' k' s' t' e f n n' r r' =
    let d = step_done h s c p r.0 r.1 n.0 r.2 in
    let d' = step_done k t c q r'.0 r'.1 n'.0 r'.2 in
    let o : answered h s c ≡ answered k t c = ap (λ z. answered z s c) e ∙ ap (λ z. answered k z c) f in
    let reply : p ≡ q = d.0 ∙ ap (λ (x : Outcome Event). x.reply) o ∙ sym d'.0 in
    let mid : r.0 ≡ r'.0 = d.1 ∙ ap (λ (x : Outcome Event). grown h x.happens) o
    ∙ ap (λ z. grown z (answered k t c).happens) e ∙ sym d'.1 in
    let source : r.1 ≡ r'.1 =
    d.2 ∙ ap (λ (x : Outcome Event). past x.examined s) o ∙ ap (past (answered k t c).examined) f ∙ sym d'.2 in
    let later = same_runs r.0 r'.0 r.1 r'.1 commands replies replies' h' k' s' t' mid source n.1 n'.1 r.3 r'.3 in
    (first_reply_same p q replies replies' reply later.0, later.1, later.2)
same_runs h k s t [] (p ∷ replies) replies' h' k' s' t' e f n n' r r' = absurd r
same_runs h k s t [] [] (q ∷ replies') h' k' s' t' e f n n' r r' = absurd r'
same_runs h k s t (c ∷ commands) [] replies' h' k' s' t' e f n n' r r' = absurd r
same_runs h k s t (c ∷ commands) (p ∷ replies) [] h' k' s' t' e f n n' r r' = absurd r'

pub runs_agree : (h : History) (s : Stream) (commands : List Command) (replies replies' : List Reply)
    (rows rows' : Rows) (rest rest' : Stream)
    → NoneFailed replies → NoneFailed replies' → RunsTo h s commands replies rows rest
    → RunsTo h s commands replies' rows' rest'
    → (replies ≡ replies') × (rows ≡ rows') × (rest ≡ rest')
runs_agree h s commands replies replies' rows rows' rest rest' n n' r r' =
    let same = same_runs h h s s commands replies replies' r.0 r'.0 rest rest' refl refl n n' r.2 r'.2 in
    (same.0, r.1.1 ∙ ap rows_of same.1 ∙ sym r'.1.1, same.2)

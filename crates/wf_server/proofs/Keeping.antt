-- What a node keeps as it goes on.
use Rattle.std.proofs.Common.{◌≡◌, ℕ, suc, ◌+◌, ◌<◌, ◌≤◌, cond, Bool, true, false, true≢false, List, length, Option, Some, None, refl, sym, ap, ap₂, ◌∙◌, subst, arith, eqb-true, eq-eqb}
use Rattle.std.specs.Prelude.{◌==◌, is_some, Result, Ok, Err, IsErrAnd, slice_set}
use Rattle.std.specs.Option.{ForSome}
use Rattle.wf_model.specs.declared.update.Update.{Update}
use Rattle.wf_disk.specs.Disk.{Told}
use Rattle.wf_journal.specs.State.{Kept}
use Rattle.wf_codec.specs.Bodies.{IsBodyOf}
use Rattle.wf_parts.specs.declared.data.PartData.{PartData}
use Rattle.wf_histories.specs.Histories.{History, taken}
use Rattle.wf_worlds.proofs.Growing.{turn_takes}
use Rattle.wf_steps.specs.Room.{Replicated}
use Rattle.wf_steps.specs.Growing.{MayTurn}
use Rattle.wf_steps.specs.Fitting.{MayBeReceived}
use Rattle.wf_steps.specs.Replicas.{prepared_of}
use Rattle.wf_server.specs.declared.node.Ready.{Ready}
use Rattle.wf_server.specs.Servers.{Server, held, held_in, inputs_of, turn_record, with_turn}
use Rattle.wf_server.specs.Inbox.{IsPeer, AllCame, IsUpdateOf, IsInbox}
use Rattle.wf_server.specs.Images.{Stands, IsPlaced}
use Rattle.wf_server.specs.Nodes.{IsReady, IsNode}
use Rattle.wf_server.proofs.Arrivals.{inbox_filled, not_all}

-- an error that came through `?`
pub residual : {T E : Type 0} (r : Result T E) (e : E) → IsErrAnd r (λ x. x ≡ e) → r ≡ Err e
residual (Ok x) e h = absurd h
residual (Err x) e h = ap (λ y. Err y) h

-- what is said of one part and history is said of equal ones
pub at_both : (P : PartData → History → Type 0) {p p' : PartData} {h h' : History} → p' ≡ p → h' ≡ h → P p h → P p' h'
at_both P {p} {p'} {h} {h'} part past x = subst (λ q. P q h') (sym part) (subst (λ g. P p g) (sym past) x)

none_some : {A : Type 0} {x : A} → ◌≡◌ {A = Option A} None (Some x) → ⊥
none_some e = cc e

pub none_ready : (P : Ready → Type 0) → ForSome {T = Ready} None P
none_ready P = λ x is. absurd (none_some is)

some_is : {x y : Ready} → ◌≡◌ {A = Option Ready} (Some x) (Some y) → x ≡ y
some_is e = cc e

pub some_ready : (P : Ready → Type 0) (x : Ready) → P x → ForSome (Some x) P
some_ready P x holds = λ y is. subst P (some_is is) holds

module _ {D : Type 0} (told : D → Told) where
  -- where part and history are these
  pub node_of : (j : Kept D) (r : Replicated) (came early : List (Option Update)) (ready : Option Ready) (part : PartData) (past : History) → r.part ≡ part → r.past ≡ past → Stands (told j.disk) j.failed part past → IsPlaced told j part past → IsInbox part (taken past + 1) came → IsInbox part (taken past + 2) early →
      ForSome ready (IsReady j.room r came) → IsNode told j r came early ready
  node_of j r came early ready part past part_is past_is stands placed came_is early_is ready_is = record {
    stands = at_both (λ p h. Stands (told j.disk) j.failed p h) part_is past_is stands;
    placed = at_both (λ p h. IsPlaced told j p h) part_is past_is placed;
    came_is = at_both (λ p h. IsInbox p (taken h + 1) came) part_is past_is came_is;
    early_is = at_both (λ p h. IsInbox p (taken h + 2) early) part_is past_is early_is;
    ready_is = ready_is;
  }

  -- with more room, and another disk on which the history stands
  pub node_kept : (j j' : Kept D) (r r' : Replicated) (came early : List (Option Update)) (ready : Option Ready) → IsNode told j r came early ready → r'.part ≡ r.part → r'.past ≡ r.past → r.turn_room ≤ r'.turn_room → r.item_room ≤ r'.item_room → j.room ≤ j'.room →
      Stands (told j'.disk) j'.failed r.part r.past → IsPlaced told j' r.part r.past → IsNode told j' r' came early ready
  node_kept j j' r r' came early ready n part past turns items room stands placed =
      node_of j' r' came early ready r.part r.past part past stands placed n.came_is n.early_is (λ x is. more x (n.ready_is x is))
    where
      more : (x : Ready) → IsReady j.room r came x → IsReady j'.room r' came x
      more x y = record {
        all_came = subst (λ p. AllCame p came) (sym part) y.all_came;
        may = at_both (λ p h. MayTurn p h (inputs_of came)) part past y.may;
        prepared = at_both (λ p h. x.prepared ≡ prepared_of p h (inputs_of came)) part past y.prepared;
        body = subst (λ h. IsBodyOf (turn_record h came) x.body) (sym past) y.body;
        short = y.short;
        turn_room = let q = y.turn_room in omega (arith, q, turns);
        item_room = let q = y.item_room in omega (arith, q, items);
        journal_room = let q = y.journal_room in omega (arith, q, room);
      }

  -- after an admission
  pub node_unready : (j : Kept D) (r : Replicated) (came early : List (Option Update)) (part : PartData) (past next : History) → r.part ≡ part → r.past ≡ next → taken next ≡ taken past → Stands (told j.disk) j.failed part next → IsPlaced told j part next → IsInbox part (taken past + 1) came → IsInbox part (taken past + 2) early → IsNode told j r came early None
  node_unready j r came early part past next part_is past_is took stands placed came_is early_is =
      node_of j r came early None part next part_is past_is stands placed
      (subst (λ t. IsInbox part (t + 1) came) (sym took) came_is) (subst (λ t. IsInbox part (t + 2) early) (sym took) early_is) (none_ready (IsReady j.room r came))

  -- after a Turn
  pub empty_inbox : (part : PartData) (step : ℕ) (slots : List (Option Update)) → length slots ≡ part.units → ((v : ℕ) → held_in slots v ≡ None) → IsInbox part step slots
  empty_inbox part step slots size none = record { size = size; each = λ v update there. absurd (none_some (sym (none v) ∙ there)) }

  pub node_turned : (j j0 : Kept D) (r r0 : Replicated) (came early came0 early0 : List (Option Update)) (ready : Option Ready) (ready0 : Option Ready) → IsNode told j0 r0 came0 early0 ready0 → r.part ≡ r0.part → r.past ≡ with_turn r0.past came0 → came ≡ early0 → length early ≡ length came0 → ((v : ℕ) → held_in early v ≡ None) → ready ≡ None →
      Stands (told j.disk) j.failed r0.part (with_turn r0.past came0) → IsPlaced told j r0.part (with_turn r0.past came0) → IsNode told j r came early ready
  node_turned j j0 r r0 came early came0 early0 ready ready0 n part past came_is size none unready stands placed =
      node_of j r came early ready r0.part (with_turn r0.past came0) part past stands placed
      (subst (λ (slots : List (Option Update)). IsInbox r0.part (taken (with_turn r0.past came0) + 1) slots) (sym came_is) (subst (λ t. IsInbox r0.part t early0) step n.early_is))
      (empty_inbox r0.part (taken (with_turn r0.past came0) + 2) early (size ∙ n.came_is.size) none)
      (subst (λ (o : Option Ready). ForSome o (IsReady j.room r came)) (sym unready) (none_ready (IsReady j.room r came)))
    where
      step : taken r0.past + 2 ≡ taken (with_turn r0.past came0) + 1
      step = let q = turn_takes r0.past (inputs_of came0) in omega (arith, q)

  -- with an update more
  module _ (j : Kept D) (r : Replicated) (came early : List (Option Update)) (ready : Option Ready) (update : Update) (n : IsNode told j r came early ready) (peer : IsPeer r.part update.from.0) (fit : MayBeReceived r.part update) where
    within : (slots : List (Option Update)) (step : ℕ) → IsInbox r.part step slots → update.from.0 < length slots
    within slots step inbox = let size = inbox.size in let w = peer.within in omega (arith, size, w)

    fits : (step : ℕ) → update.step ≡ step → IsUpdateOf r.part update.from.0 step update
    fits step is = record { peer = peer; from = refl; at_step = is; fit = fit }

    pub node_next : (slots : List (Option Update)) → held_in came update.from.0 ≡ None → update.step ≡ taken r.past + 1 → slots ≡ slice_set came update.from.0 (Some update) → IsNode told j r slots early ready
    node_next slots none step is = record {
      stands = n.stands;
      placed = n.placed;
      came_is = subst (IsInbox r.part (taken r.past + 1)) (sym is) (inbox_filled r.part (taken r.past + 1) came update n.came_is (fits (taken r.past + 1) step) (within came (taken r.past + 1) n.came_is));
      early_is = n.early_is;
      ready_is = λ x there. absurd (not_all r.part came update.from.0 peer none (n.ready_is x there).all_came);
    }

    pub node_later : (slots : List (Option Update)) → update.step ≡ taken r.past + 2 → slots ≡ slice_set early update.from.0 (Some update) → IsNode told j r came slots ready
    node_later slots step is = record {
      stands = n.stands;
      placed = n.placed;
      came_is = n.came_is;
      early_is = subst (IsInbox r.part (taken r.past + 2)) (sym is) (inbox_filled r.part (taken r.past + 2) early update n.early_is (fits (taken r.past + 2) step) (within early (taken r.past + 2) n.early_is));
      ready_is = n.ready_is;
    }

-- what isn't held of the next step isn't there
pub none_next : (came early : List (Option Update)) (t v step : ℕ) → cond (step == t + 1) (held_in came v) (cond (step == t + 2) (held_in early v) None) ≡ None → step ≡ t + 1 → held_in came v ≡ None
none_next came early t v step none is = sym (ap (λ b. cond b (held_in came v) (cond (step == t + 2) (held_in early v) None)) (eq-eqb step (t + 1) is)) ∙ none

-- the view, where part and history stay
pub view_kept : {D : Type 0} (a b : Server D) (j : Kept D) (part : PartData) (past : History) (ready : Bool) → a ≡ b → j ≡ record a.journal { room = j.room } → part ≡ a.part → past ≡ a.past →
    ◌≡◌ {A = Server D} (record { journal = j; part = part; past = past; came = a.came; early = a.early; ready = ready }) (record b { journal = record b.journal { room = j.room }; ready = ready })
view_kept {D = D} a b j part past ready view_is journal part_is past_is =
    let P : Server D → Type 0 = λ s. ◌≡◌ {A = Server D} (record { journal = j; part = part; past = past; came = a.came; early = a.early; ready = ready }) (record s { journal = record s.journal { room = j.room }; ready = ready }) in
    subst P view_is (λ i. record { journal = journal i; part = part_is i; past = past_is i; came = a.came; early = a.early; ready = ready })

pub view_turned : {D : Type 0} (a b : Server D) (j : Kept D) (r : Replicated) (came early : List (Option Update)) (ready : Option Ready) → a ≡ b → r.part ≡ a.part → r.past ≡ with_turn a.past a.came → came ≡ a.early → ready ≡ None →
    ◌≡◌ {A = Server D} (record { journal = j; part = r.part; past = r.past; came = came; early = early; ready = is_some ready }) (record { journal = j; part = b.part; past = with_turn b.past b.came; came = b.early; early = early; ready = false })
view_turned {D = D} a b j r came early ready view_is part past came_is none =
    let P : Server D → Type 0 = λ s. ◌≡◌ {A = Server D} (record { journal = j; part = r.part; past = r.past; came = came; early = early; ready = is_some ready }) (record { journal = j; part = s.part; past = with_turn s.past s.came; came = s.early; early = early; ready = false }) in
    subst P view_is (λ i. record { journal = j; part = part i; past = past i; came = came_is i; early = early; ready = is_some (none i) })

use Rattle.std.proofs.Common.{◌≡◌, ℕ, suc, ◌+◌, ◌*◌, ◌<◌, ◌≤◌, List, ◌++◌, length, map, arith, subst, sym, ap, ap₂, ◌∙◌, rules, true≢false}
use Rattle.std.specs.Prelude.{All, Result, Ok, Err, IsOk, OnOk, insert, nat_eq}
use Rattle.std.specs.HashMap.{get}
use Rattle.wf_model.specs.Limits.{max_acts}
use Rattle.wf_model.specs.declared.ids.ActId.{ActId}
use Rattle.wf_model.specs.declared.update.StartAt.{StartAt}
use Rattle.wf_parts.specs.declared.data.PartData.{PartData}
use Rattle.wf_histories.specs.Histories.{TurnDone, History, taken, local_update}
use Rattle.wf_semantics.specs.Items.{Item, new_item}
use Rattle.wf_activities.specs.UnitItems.{listed}
use Rattle.wf_steps.specs.declared.prepared.Prepared.{Prepared}
use Rattle.wf_steps.specs.Room.{Replicated}
use Rattle.wf_steps.specs.Items.{own_acts, new_starts}
use Rattle.wf_steps.specs.Growing.{MayTurn}
use Rattle.wf_steps.specs.Replicas.{prepared_of}
use Rattle.wf_steps.proofs.ItemsGrow.{length_items}
use Rattle.wf_steps.proofs.Made.{made_sealed, made_steps}
use Rattle.wf_steps.proofs.Kept.{acts_below, items_long, items_few, new_listed, turn_few}
use Rattle.wf_steps.proofs.Stepping.{turned_is}
use Rattle.wf_steps.proofs.replica.Replica.turn.Goals as goal

on_ok : {T E : Type 0} (r : Result T E) (P : Type 0) → IsOk r → OnOk r P → P
on_ok (Ok x) P is p = p
on_ok (Err e) P is p = absurd (true≢false (sym is))

-- the starts that were worked out are the unit's own, so all of them are listed
own_starts : (part : PartData) (past : History) (prepared : Prepared) (acts : List ActId) (starts : List StartAt) → prepared ≡ prepared_of part past prepared.done.inputs → acts ≡ own_acts part → starts ≡ prepared.starts → listed acts starts ≡ prepared.starts
own_starts part past prepared acts starts is acts_are starts_are =
    let of = ap (λ (p : Prepared). p.starts) is in
    ap₂ (λ (a : List ActId) (s : List StartAt). listed a s) acts_are (starts_are ∙ of) ∙ new_listed part (insert prepared.done.inputs part.unit.0 (local_update part past (suc (taken past)))) ∙ sym of

pub invariant_of-self : goal.invariant_of-self
invariant_of-self c =
    let P : Replicated → Type 0 = λ s. MayTurn s.part s.past c.args.prepared.done.inputs in
    let may : MayTurn c.self.inside.part c.self.inside.history.past c.args.prepared.done.inputs = subst P (sym c.self.view_is) c.requires.may in
    let is : c.args.prepared ≡ prepared_of c.self.inside.part c.self.inside.history.past c.args.prepared.done.inputs = c.requires.prepared ∙ ap (λ (s : Replicated). prepared_of s.part s.past c.args.prepared.done.inputs) (sym c.self.view_is) in
    let acts : c.as_slice.result.now ≡ own_acts c.self.inside.part = c.as_slice.ensures ∙ c.self.invariant.acts_are in
    let own = own_starts c.self.inside.part c.self.inside.history.past c.args.prepared c.as_slice.result.now c.as_slice-2.result.now is acts c.as_slice-2.ensures in
    let step : c.done.inside.step ≡ c.args.prepared.done.step = ap (λ (d : TurnDone). d.step) c.done.view_is in
    let below : All (λ a. a.0 < max_acts) c.as_slice.result.now = let Q : List ActId → Type 0 = λ l. All (λ a. a.0 < max_acts) l in subst Q (sym acts) (acts_below c.self.inside.part c.data-part.ensures.part) in
    let room : length c.args.prepared.starts ≤ c.self.inside.items.room = let Q : Replicated → Type 0 = λ s. length c.args.prepared.starts ≤ s.item_room in subst Q (sym c.self.view_is) c.requires.items in
    let ok = c.grow.ensures.ready below (omega (arith, ap length own, room)) in
    turned_is c.self.inside.part c.self.inside.acts c.self.inside.history.past c.self.inside.view c.self.inside.items c.self.inside.last c.self.inside.next c.self.inside.sealed (get nat_eq c.self.inside.index) c.self.invariant
    c.args.prepared may is c.grow.new.self
    (on_ok c.grow.result _ ok c.grow.ensures.items ∙ ap (λ (l : List StartAt). c.self.inside.items.items ++ map (λ s. new_item s.act) l) own)
    (on_ok c.grow.result _ ok c.grow.ensures.steps ∙ ap₂ (λ (l : List StartAt) (n : ℕ). c.self.inside.items.steps ++ map (λ s. n) l) own step)
    c.grow-2.new.self.past c.replace.result c.replace.new.dest (c.self.inside.sealed + c.done.inside.sealed) (search rules) (search rules) (search rules) (ap (λ n. c.self.inside.sealed + n) (ap (λ (d : TurnDone). d.sealed) c.done.view_is))

pub grow-requires : goal.grow-requires
grow-requires c =
    let P : Replicated → Type 0 = λ s. MayTurn s.part s.past c.args.prepared.done.inputs in
    let may : MayTurn c.self.inside.part c.self.inside.history.past c.args.prepared.done.inputs = subst P (sym c.self.view_is) c.requires.may in
    let is : c.args.prepared ≡ prepared_of c.self.inside.part c.self.inside.history.past c.args.prepared.done.inputs = c.requires.prepared ∙ ap (λ (s : Replicated). prepared_of s.part s.past c.args.prepared.done.inputs) (sym c.self.view_is) in
    let starts_are = ap (λ (p : Prepared). p.starts) is in
    let own = ap₂ (λ (a : List ActId) (s : List StartAt). length (listed a s)) (c.as_slice.ensures ∙ c.self.invariant.acts_are) (c.as_slice-2.ensures ∙ starts_are)
    ∙ ap length (new_listed c.self.inside.part (insert c.args.prepared.done.inputs c.self.inside.part.unit.0 (local_update c.self.inside.part c.self.inside.history.past (suc (taken c.self.inside.history.past))))) in
    let items = ap length c.self.invariant.items_are ∙ items_long c.self.inside.part c.self.inside.history.past in
    omega (arith, own, items, items_few c.self.inside.part c.data-part.ensures.part c.self.invariant.made, turn_few c.self.inside.part c.data-part.ensures.part c.args.prepared.done.inputs c.self.invariant.made may, may.steps)

pub overflow_add-self : goal.overflow_add-self
overflow_add-self c =
    let P : Replicated → Type 0 = λ s. c.args.prepared ≡ prepared_of s.part s.past c.args.prepared.done.inputs in
    let is = subst P (sym c.self.view_is) c.requires.prepared in
    let few : c.done.inside.sealed ≤ 64 = omega (arith, ap (λ (d : TurnDone). d.sealed) c.done.view_is, ap (λ (p : Prepared). p.done.sealed) is) in
    omega (arith, few, c.self.invariant.sealed_is, made_sealed c.self.inside.part c.self.invariant.made, made_steps c.self.inside.part c.self.invariant.made)

pub returns-clause-item_room : goal.returns-clause-item_room
returns-clause-item_room c =
    let is : c.args.prepared ≡ prepared_of c.self.inside.part c.self.inside.history.past c.args.prepared.done.inputs = c.requires.prepared ∙ ap (λ (s : Replicated). prepared_of s.part s.past c.args.prepared.done.inputs) (sym c.self.view_is) in
    let own = own_starts c.self.inside.part c.self.inside.history.past c.args.prepared c.as_slice.result.now c.as_slice-2.result.now is (c.as_slice.ensures ∙ c.self.invariant.acts_are) c.as_slice-2.ensures in
    let same = ap (λ (s : Replicated). s.item_room) c.self.view_is in
    omega (arith, same, ap length own, c.grow.ensures.room)

use Rattle.std.proofs.Common.{◌≡◌, ℕ, suc, ◌+◌, ◌^◌, ◌<◌, ◌≤◌, ◌∙◌, List, take, drop, length, arith, subst, sym, ap, ap₂, refl, rules, length-drop}
use Rattle.std.specs.Prelude.{All, insert, sum}
use Rattle.wf_model.specs.declared.ids.ActId.{ActId}
use Rattle.wf_model.specs.declared.update.Update.{Update}
use Rattle.wf_parts.specs.declared.data.PartData.{PartData}
use Rattle.wf_views.specs.Views.{View, count_now}
use Rattle.wf_views.specs.Absorbing.{absorbed, starts_in, start_count}
use Rattle.wf_views.specs.Laws.{IsViewOf}
use Rattle.wf_activities.specs.UnitItems.{listed}
use Rattle.wf_histories.specs.Histories.{Admission, History, seals, taken, local, local_update}
use Rattle.wf_worlds.specs.Admitting.{outers}
use Rattle.wf_worlds.specs.Growing.{turned}
use Rattle.wf_worlds.proofs.Keeping.{local_is_view}
use Rattle.wf_steps.specs.Room.{Replicated}
use Rattle.wf_steps.specs.Items.{in_order}
use Rattle.wf_steps.specs.Growing.{MayTurn, sealing}
use Rattle.wf_steps.specs.Replicas.{prepared_of}
use Rattle.wf_steps.proofs.Kept.{turn_few}
use Rattle.wf_steps.proofs.Worked.{absorb_fits, view_after, next_after, starts_after, prepared_is}
use Rattle.wf_steps.proofs.replica.Replica.prepare.Goals as goal

pub after-requires : goal.after-requires
after-requires c =
    let P : Replicated → Type 0 = λ s. MayTurn s.part s.past c.args.inputs in
    let may : MayTurn c.self.inside.part c.self.inside.history.past c.args.inputs = subst P (sym c.self.view_is) c.requires in
    let all_is : c.as_slice-3.result.now ≡ insert c.args.inputs c.self.inside.part.unit.0 (local_update c.self.inside.part c.self.inside.history.past (suc (taken c.self.inside.history.past))) =
    c.as_slice-3.ensures ∙ c.in_ok-all.ensures
    ∙ ap (λ (p : PartData). insert c.args.inputs p.unit.0 c.self.inside.next) c.data-data.ensures.same
    ∙ ap (λ (u : Update). insert c.args.inputs c.self.inside.part.unit.0 u) c.self.invariant.next_is in
    let view_is : c.self.inside.view ≡ local c.self.inside.part c.self.inside.history.past (taken c.self.inside.history.past) = c.self.invariant.view_is in
    let F : View → List Update → Type 0 = λ v l. All (λ a. count_now v a + start_count a.0.0 (starts_in l) < 2 ^ 32) v.unclosed in
    subst (λ (v : View). F v c.as_slice-3.result.now) (sym view_is)
    (subst (λ (l : List Update). F (local c.self.inside.part c.self.inside.history.past (taken c.self.inside.history.past)) l) (sym all_is)
    (absorb_fits c.self.inside.part c.self.inside.history.past c.args.inputs c.self.invariant.made c.data-data.ensures.part may))

pub first_outers-requires : goal.first_outers-requires
first_outers-requires c = omega (arith, c.next_sealed-sealed.ensures, ap length c.pending_admissions.ensures, length-drop (sum (seals c.args.self.now.past)) c.args.self.now.past.admissions)

pub own_step-requires : goal.own_step-requires
own_step-requires c =
    let P : Replicated → Type 0 = λ s. MayTurn s.part s.past c.args.inputs in
    let may : MayTurn c.self.inside.part c.self.inside.history.past c.args.inputs = subst P (sym c.self.view_is) c.requires in
    let all_is : c.as_slice-3.result.now ≡ insert c.args.inputs c.self.inside.part.unit.0 (local_update c.self.inside.part c.self.inside.history.past (suc (taken c.self.inside.history.past))) =
    c.as_slice-3.ensures ∙ c.in_ok-all.ensures
    ∙ ap (λ (p : PartData). insert c.args.inputs p.unit.0 c.self.inside.next) c.data-data.ensures.same
    ∙ ap (λ (u : Update). insert c.args.inputs c.self.inside.part.unit.0 u) c.self.invariant.next_is in
    let view_is : c.in_ok-view.view ≡ absorbed c.self.inside.part (local c.self.inside.part c.self.inside.history.past (taken c.self.inside.history.past)) c.as_slice-3.result.now =
    c.in_ok-view.ensures ∙ ap (λ (v : View). absorbed c.self.inside.part v c.as_slice-3.result.now) c.self.invariant.view_is in
    subst (λ (v : View). IsViewOf c.self.inside.part v) (sym (view_after c.self.inside.part c.self.inside.history.past c.args.inputs c.self.invariant.made c.as_slice-3.result.now c.in_ok-view.view all_is view_is))
    (local_is_view c.self.inside.part (turned c.self.inside.history.past c.args.inputs) (suc (taken c.self.inside.history.past)))

pub returns-clause-prepared : goal.returns-clause-prepared
returns-clause-prepared c =
    let P : Replicated → Type 0 = λ s. MayTurn s.part s.past c.args.inputs in
    let may : MayTurn c.self.inside.part c.self.inside.history.past c.args.inputs = subst P (sym c.self.view_is) c.requires in
    let all_is : c.as_slice-3.result.now ≡ insert c.args.inputs c.self.inside.part.unit.0 (local_update c.self.inside.part c.self.inside.history.past (suc (taken c.self.inside.history.past))) =
    c.as_slice-3.ensures ∙ c.in_ok-all.ensures
    ∙ ap (λ (p : PartData). insert c.args.inputs p.unit.0 c.self.inside.next) c.data-data.ensures.same
    ∙ ap (λ (u : Update). insert c.args.inputs c.self.inside.part.unit.0 u) c.self.invariant.next_is in
    let view_is : c.in_ok-view.view ≡ absorbed c.self.inside.part (local c.self.inside.part c.self.inside.history.past (taken c.self.inside.history.past)) c.as_slice-3.result.now =
    c.in_ok-view.ensures ∙ ap (λ (v : View). absorbed c.self.inside.part v c.as_slice-3.result.now) c.self.invariant.view_is in
    let past_is : c.args.self.now.past ≡ c.self.inside.history.past = ap (λ (s : Replicated). s.past) (sym c.self.view_is) in
    let step : c.taken-step.result ≡ taken c.self.inside.history.past = c.taken-step.ensures.taken ∙ ap taken past_is in
    let sealed : c.next_sealed-sealed.result ≡ sealing c.self.inside.history.past = c.next_sealed-sealed.ensures ∙ ap sealing past_is in
    let waiting : c.pending_admissions.result.now ≡ drop (sum (seals c.self.inside.history.past)) c.self.inside.history.past.admissions = c.pending_admissions.ensures ∙ ap (λ (h : History). drop (sum (seals h)) h.admissions) past_is in
    let outers_are : c.in_ok-outers.outers ≡ outers (take (sealing c.self.inside.history.past) (drop (sum (seals c.self.inside.history.past)) c.self.inside.history.past.admissions)) =
    c.in_ok-outers.ensures ∙ ap₂ (λ (n : ℕ) (l : List Admission). outers (take n l)) sealed waiting in
    prepared_is c.self.inside.part c.self.inside.history.past c.args.inputs
    (record { done = record { step = c.taken-step.result + 1; inputs = c.args.inputs; sealed = c.next_sealed-sealed.result }; view = c.in_ok-view.view; next = c.in_ok-next.next; starts = c.in_ok-starts.starts })
    (ap (λ (n : ℕ). n + 1) step) refl sealed
    (view_after c.self.inside.part c.self.inside.history.past c.args.inputs c.self.invariant.made c.as_slice-3.result.now c.in_ok-view.view all_is view_is)
    (c.in_ok-next.ensures
    ∙ next_after c.self.inside.part c.self.inside.history.past c.args.inputs c.self.invariant.made c.as_slice-3.result.now c.in_ok-view.view all_is view_is (c.taken-step.result + 1) c.in_ok-outers.outers (ap (λ (n : ℕ). n + 1) step) outers_are)
    (c.in_ok-starts.ensures
    ∙ ap₂ (λ (a : List ActId) (l : List Update). in_order (listed a (starts_in l))) c.as_slice.ensures (c.as_slice-2.ensures ∙ sym c.as_slice-3.ensures)
    ∙ starts_after c.self.inside.part c.self.inside.history.past c.args.inputs c.self.invariant.made c.as_slice-3.result.now c.in_ok-view.view all_is view_is c.self.inside.acts c.self.invariant.acts_are)
    ∙ ap (λ (s : Replicated). prepared_of s.part s.past c.args.inputs) c.self.view_is

pub returns-clause-few : goal.returns-clause-few
returns-clause-few c =
    let P : Replicated → Type 0 = λ s. MayTurn s.part s.past c.args.inputs in
    let may : MayTurn c.self.inside.part c.self.inside.history.past c.args.inputs = subst P (sym c.self.view_is) c.requires in
    let all_is : c.as_slice-3.result.now ≡ insert c.args.inputs c.self.inside.part.unit.0 (local_update c.self.inside.part c.self.inside.history.past (suc (taken c.self.inside.history.past))) =
    c.as_slice-3.ensures ∙ c.in_ok-all.ensures
    ∙ ap (λ (p : PartData). insert c.args.inputs p.unit.0 c.self.inside.next) c.data-data.ensures.same
    ∙ ap (λ (u : Update). insert c.args.inputs c.self.inside.part.unit.0 u) c.self.invariant.next_is in
    let view_is : c.in_ok-view.view ≡ absorbed c.self.inside.part (local c.self.inside.part c.self.inside.history.past (taken c.self.inside.history.past)) c.as_slice-3.result.now =
    c.in_ok-view.ensures ∙ ap (λ (v : View). absorbed c.self.inside.part v c.as_slice-3.result.now) c.self.invariant.view_is in
    let starts_are =
    c.in_ok-starts.ensures
    ∙ ap₂ (λ (a : List ActId) (l : List Update). in_order (listed a (starts_in l))) c.as_slice.ensures (c.as_slice-2.ensures ∙ sym c.as_slice-3.ensures)
    ∙ starts_after c.self.inside.part c.self.inside.history.past c.args.inputs c.self.invariant.made c.as_slice-3.result.now c.in_ok-view.view all_is view_is c.self.inside.acts c.self.invariant.acts_are in
    omega (arith, ap length starts_are, turn_few c.self.inside.part c.data-data.ensures.part c.args.inputs c.self.invariant.made may)

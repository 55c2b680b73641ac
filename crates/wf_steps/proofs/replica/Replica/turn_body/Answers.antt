use Rattle.std.proofs.Common.{◌≡◌, ◌≤◌, ◌+◌, ◌*◌, ℕ, length, ap, arith, sym, subst, rules}
use Rattle.wf_model.specs.declared.update.Update.{Update}
use Rattle.std.specs.Prelude.{List}
use Rattle.wf_codec.specs.Ranges.{Ascend}
use Rattle.wf_steps.specs.Room.{Replicated}
use Rattle.wf_steps.specs.Growing.{MayTurn}
use Rattle.wf_steps.proofs.Made.{inputs_ascend}
use Rattle.wf_steps.proofs.Short.{short_inputs}
use Rattle.wf_steps.proofs.replica.Replica.turn_body.Goals as goal

pub encode_turn-requires-clause-ascend : goal.encode_turn-requires-clause-ascend
encode_turn-requires-clause-ascend c =
    let P : Replicated → Type 0 = λ s. MayTurn s.part s.past c.args.prepared.now.done.inputs in
    let may = subst P (sym c.self.view_is) c.requires.may in
    let same : c.as_slice-inputs.result.now ≡ c.args.prepared.now.done.inputs = search rules in
    subst (λ (l : List Update). Ascend (λ u. u.from.0) l) (sym same) (inputs_ascend c.self.inside.part c.data-part.ensures.part _ c.args.prepared.now.done.inputs may.suited)

pub returns-clause-short : goal.returns-clause-short
returns-clause-short c =
    let P : Replicated → Type 0 = λ s. MayTurn s.part s.past c.args.prepared.now.done.inputs in
    let may = subst P (sym c.self.view_is) c.requires.may in
    let same : length c.as_slice-inputs.result.now ≡ length c.args.prepared.now.done.inputs = search rules in
    let bytes : length c.as_slice.result.now ≡ length c.in_ok-body.body = ap (λ (l : List ℕ). length l) c.as_slice.ensures in
    let most = c.turn_is_short.ensures in
    short_inputs c.self.inside.part c.data-part.ensures.part _ c.args.prepared.now.done.inputs (length c.in_ok-body.body) may.suited (omega (arith, most, same, bytes))

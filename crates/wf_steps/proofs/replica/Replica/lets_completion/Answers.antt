use Rattle.std.proofs.Common.{◌≡◌, ◌∙◌, ◌==◌, ap, ap₂, sym}
use Rattle.std.specs.Prelude.{List, [], false, true, find}
use Rattle.std.specs.Option.{option_map_or}
use Rattle.wf_model.specs.declared.outer.Outer.TheVariants.{Complete}
use Rattle.wf_model.specs.declared.ids.VarId.{VarId}
use Rattle.wf_model.specs.declared.value.Sort.{Sort}
use Rattle.wf_parts.specs.declared.data.PartData.{PartData}
use Rattle.wf_semantics.specs.Items.{Item}
use Rattle.wf_activities.specs.Completing.{may_complete}
use Rattle.wf_histories.specs.Follows.{is_own_act}
use Rattle.wf_worlds.specs.Admitting.{lets_in}
use Rattle.wf_steps.specs.Room.{Replicated}
use Rattle.wf_steps.proofs.Rules.{not_own, lets_own}
use Rattle.wf_steps.proofs.replica.Replica.lets_completion.Goals as goal

pub returns-then-not-is_own_act : goal.returns-then-not-is_own_act
returns-then-not-is_own_act c =
    let own : is_own_act c.self.inside.part c.args.act.0 ≡ false = ap (λ (p : PartData). is_own_act p c.args.act.0) (sym c.data-data.ensures.same) ∙ sym c.is_own_act.ensures ∙ c.if-not-is_own_act.true in
    not_own c.self.inside.part c.self.inside.history.past c.args.item c.args.act c.args.outputs.now own
    ∙ ap (λ (s : Replicated). lets_in s.part s.past (Complete c.args.item c.args.act c.args.outputs.now)) c.self.view_is

pub returns : goal.returns
returns c =
    let own : is_own_act c.self.inside.part c.args.act.0 ≡ true = ap (λ (p : PartData). is_own_act p c.args.act.0) (sym c.data-data.ensures.same) ∙ sym c.is_own_act.ensures ∙ c.if-not-is_own_act.false in
    let wanted = c.wanted_by.ensures ∙ ap (λ (p : PartData). option_map_or (λ known. known.outputs) (find (λ known. known.id.0 == c.args.act.0) p.acts) []) c.data-data.ensures.same in
    c.may_complete.ensures.answer
    ∙ ap₂ (λ (l : List Item) (ws : List (VarId × Sort)). may_complete l c.args.item c.args.act c.args.outputs.now ws) c.self.invariant.items_are wanted
    ∙ lets_own c.self.inside.part c.self.inside.history.past c.args.item c.args.act c.args.outputs.now own
    ∙ ap (λ (s : Replicated). lets_in s.part s.past (Complete c.args.item c.args.act c.args.outputs.now)) c.self.view_is

use Rattle.std.proofs.Common.{◌≡◌, ◌<◌, ◌&&◌, Bool, length, get_or, rules, false, refl, subst}
use Rattle.std.specs.List.{list_any, range_with_len}
use Rattle.wf_model.specs.declared.chart.Action.{Action}
use Rattle.wf_partition.specs.declared.holding.Held.{Held}
use Rattle.wf_partition.specs.Marked.{Holds, has_at}
use Rattle.wf_partition.proofs.HoldingSteps.{holds_none, holds_counted, holds_skipped, holds_number, own_at}
use Rattle.wf_partition.proofs.holding.add_own.Goals as goal
use Rattle.wf_partition.proofs.holding.add_own.Goals.{then-is_state_of, else-is_state_of}

pub loop-transition-init : goal.loop-transition-init
loop-transition-init c = holds_none (λ t. false) c.args.held.now (λ t. refl)

pub loop-transition-preserved : goal.loop-transition-preserved
loop-transition-preserved c =
    let chart = c.args.chart.now in
    let u = c.args.unit.0 in
    let item = c.transition-item.result in
    let within : c.loop-transition.transition-index < length c.args.chart.now.transitions = search rules in
    let there : c.transition-item.result ≡ get_or c.args.chart.now.transitions c.loop-transition.transition-index c.transition-item.result = search rules in
    let own = c.is_state_of.result in
    let test = λ (t : Action → Bool). list_any t item.actions in
    let more = λ (new : Held) (made : Holds (λ t. own && test t) c.loop-transition.held new).
    holds_number (has_at chart u) (λ t. own && test t) c.loop-transition.transition-index c.args.held.now c.loop-transition.held new
    c.loop-transition.invariant made (own_at chart u c.loop-transition.transition-index own item within there c.is_state_of.ensures) in
    elim c.if-is_state_of.branch [
      | then-is_state_of w ↦ rw w.held-is (more w.add_actions.new.held
          (holds_counted own test c.loop-transition.held w.add_actions.new.held w.if-is_state_of.true (subst (λ actions. Holds (λ t. list_any t actions) c.loop-transition.held w.add_actions.new.held) w.as_slice.ensures w.add_actions.ensures)))
      | else-is_state_of w ↦ rw w.held-is (more c.loop-transition.held (holds_skipped own test c.loop-transition.held w.if-is_state_of.false))
    ]

pub returns : goal.returns
returns c =
    let all : c.loop-transition.transition-index ≡ length c.args.chart.now.transitions = search rules in
    subst (λ n. Holds (λ t. list_any (has_at c.args.chart.now c.args.unit.0 t) (range_with_len 0 n)) c.args.held.now c.loop-transition.held) all c.loop-transition.invariant

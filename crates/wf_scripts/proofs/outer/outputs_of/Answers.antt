use Rattle.std.proofs.Common.{◌≡◌, ◌∙◌, ap, sym, arith, length, List, Some, append-nil}
use Rattle.wf_lex.specs.declared.token.Token.{Token}
use Rattle.wf_scripts.specs.Finders.{finder_of}
use Rattle.wf_scripts.specs.Outers.{between_commas, each_output, outputs_of}
use Rattle.wf_scripts.proofs.Commas.{with_outputs, outputs_on, outputs_refused, behind_comma, no_comma}
use Rattle.wf_scripts.proofs.outer.outputs_of.Goals as goal

pub returns-then-not-branch : goal.returns-then-not-branch
unfolding outputs_of
returns-then-not-branch c =
    outputs_refused (finder_of c.args.names.now) c.args.line.now c.loop-outputs.outputs c.add_output.new.outputs c.loop-outputs.rest.now c.split_group.result.0.now
    c.in_ok-add_output.field-0 (each_output (finder_of c.args.names.now) c.args.line.now (between_commas c.args.line.now c.args.tokens.now))
    c.split_group.ensures.group c.loop-outputs.invariant c.in_ok-add_output.ensures c.if-not-branch.true

pub returns-in_default : goal.returns-in_default
unfolding outputs_of
returns-in_default c =
    let none : length c.split_group.result.1.now ≡ 0 = omega (arith, c.in_default.len_below) in
    sym (ap Some (append-nil c.add_output.new.outputs))
    ∙ ap (λ (groups : List (List Token)). with_outputs c.add_output.new.outputs (each_output (finder_of c.args.names.now) c.args.line.now groups))
    (sym (no_comma c.args.line.now c.split_group.result.1.now none))
    ∙ outputs_on (finder_of c.args.names.now) c.args.line.now c.loop-outputs.outputs c.add_output.new.outputs c.loop-outputs.rest.now c.split_group.result.0.now c.split_group.result.1.now
    c.in_ok-add_output.field-0 (each_output (finder_of c.args.names.now) c.args.line.now (between_commas c.args.line.now c.args.tokens.now))
    c.split_group.ensures.group c.split_group.ensures.behind c.loop-outputs.invariant c.in_ok-add_output.ensures c.if-not-branch.false

pub loop-outputs-preserved : goal.loop-outputs-preserved
loop-outputs-preserved c =
    ap (λ (groups : List (List Token)). with_outputs c.add_output.new.outputs (each_output (finder_of c.args.names.now) c.args.line.now groups))
    (sym (behind_comma c.args.line.now c.split_group.result.1.now c.in-len1-up.len_at_least))
    ∙ outputs_on (finder_of c.args.names.now) c.args.line.now c.loop-outputs.outputs c.add_output.new.outputs c.loop-outputs.rest.now c.split_group.result.0.now c.split_group.result.1.now
    c.in_ok-add_output.field-0 (each_output (finder_of c.args.names.now) c.args.line.now (between_commas c.args.line.now c.args.tokens.now))
    c.split_group.ensures.group c.split_group.ensures.behind c.loop-outputs.invariant c.in_ok-add_output.ensures c.if-not-branch.false

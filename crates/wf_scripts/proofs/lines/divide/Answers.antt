use Rattle.std.proofs.Common.{◌≡◌, sym, ◌∙◌, ap, false, subst}
use Rattle.wf_scripts.specs.Lines.{first_line, is_divider}
use Rattle.wf_scripts.proofs.Divided.{IsBehind, is_behind-more}
use Rattle.wf_scripts.proofs.lines.divide.Goals as goal

pub loop-line-preserved : goal.loop-line-preserved
loop-line-preserved c =
    let other : is_divider (first_line c.loop-line.rest.now) ≡ false =
    ap is_divider (sym c.split_line.ensures.line) ∙ sym c.is_divider.ensures ∙ c.if-is_divider.false in
    subst (IsBehind c.args.input.now) (sym c.split_line.ensures.rest) (is_behind-more c.args.input.now c.loop-line.rest.now other c.loop-line.invariant)

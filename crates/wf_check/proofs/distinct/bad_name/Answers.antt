use Rattle.std.proofs.Common.{rules, ◌∙◌, ℕ, sym, List, [], Bor}
use Rattle.std.proofs.lemmas.Bool.{MatchBool-at_true}
use Rattle.wf_check.specs.Naming.{texts}
use Rattle.wf_check.proofs.Novel.{has_more}
use Rattle.wf_check.proofs.GoodNames.{bad_start, no_name, old_name, new_name}
use Rattle.wf_check.proofs.distinct.bad_name.Goals as goal
use Rattle.wf_check.proofs.distinct.bad_name.Goals.{then-not-is_name-via-then-not-is_name, then-not-is_name-via-else-not-is_name+in_ok-insert+then-not-branch}

-- the item behind the end
abbrev none : Bor (List ℕ)
none = record { ref_ptr = (0, 0); now = [] }

pub loop-n-init : goal.loop-n-init
loop-n-init c = record { rest = bad_start (texts c.args.names.now); keys = search rules }

pub returns-then-not-is_name : goal.returns-then-not-is_name
returns-then-not-is_name c =
    elim c.then-not-is_name.branch [
      | then-not-is_name-via-then-not-is_name w ↦
          no_name c.args.names.now c.loop-n.seen.keys c.loop-n.n none c.loop-n-test.true c.loop-n.invariant.keys (sym c.is_name.ensures ∙ w.if-not-is_name.true)
          ∙ sym c.loop-n.invariant.rest
      | then-not-is_name-via-else-not-is_name+in_ok-insert+then-not-branch w ↦
          old_name c.args.names.now c.loop-n.seen.keys c.loop-n.n none w.in_ok-insert.field-0 c.loop-n-test.true c.loop-n.invariant.keys
          (sym c.is_name.ensures ∙ w.if-not-is_name.false) w.in_ok-insert.ensures.added w.if-not-branch.true
          ∙ sym c.loop-n.invariant.rest
    ]

pub loop-n-preserved : goal.loop-n-preserved
loop-n-preserved c = record {
  rest = c.loop-n.invariant.rest
      ∙ new_name c.args.names.now c.loop-n.seen.keys c.loop-n.n none c.in_ok-insert.field-0 c.loop-n-test.true c.loop-n.invariant.keys
      (sym c.is_name.ensures ∙ c.if-not-is_name.false) c.in_ok-insert.ensures.added c.if-not-branch.false;
  keys = has_more c.args.names.now c.loop-n.seen.keys c.insert.new.self.keys c.loop-n.n none c.loop-n-test.true c.loop-n.invariant.keys
      (MatchBool-at_true _ _ c.if-not-branch.false c.in_ok-insert.ensures.keys);
}

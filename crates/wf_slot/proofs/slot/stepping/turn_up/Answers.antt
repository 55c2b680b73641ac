use Rattle.std.proofs.Common.{◌≡◌, ℕ, suc, ◌+◌, ◌≤◌, Result, Ok, Err, refl, sym, ap, ◌∙◌, subst, arith, rules, true≢false}
use Rattle.std.specs.Prelude.{IsErr, IsOk, OnOk}
use Rattle.wf_disk.specs.Memory.{Held, told_of}
use Rattle.wf_parts.specs.declared.data.PartData.{PartData}
use Rattle.wf_histories.specs.Histories.{taken}
use Rattle.wf_server.specs.declared.fault.Turn.{Turn}
use Rattle.wf_server.specs.declared.fault.Turn.TheVariants.{Took}
use Rattle.wf_server.specs.declared.fault.TurnFault.{TurnFault}
use Rattle.wf_server.specs.declared.fault.TurnFault.TheVariants as turns
use Rattle.wf_worlds.proofs.Growing.{turn_takes}
use Rattle.wf_server.specs.Servers.{Server, inputs_of, with_turn}
use Rattle.wf_server.specs.Images.{IsPlaced}
use Rattle.wf_server.specs.Answers.{TurnAnswers, CanTurn}
use Rattle.wf_slot.proofs.Disks.{some_by}
use Rattle.wf_slot.proofs.Turns.{all_of, units_few}
use Rattle.wf_slot.proofs.TurnEnds.{no_turn_fault, turn_fault, waits_ends, turn_longer, took_ends, turn_had_arm, turn_broke_off, turn_spared}
use Rattle.wf_slot.proofs.Full.{turn_fits}
use Rattle.wf_slot.proofs.slot.stepping.turn_up.Goals as goal

memory_not_disk : ◌≡◌ {A = TurnFault} turns.NoMemory turns.DiskFailed → ⊥
memory_not_disk e = cc e

full_not_memory : ◌≡◌ {A = TurnFault} turns.JournalFull turns.NoMemory → ⊥
full_not_memory e = cc e

full_not_disk : ◌≡◌ {A = TurnFault} turns.JournalFull turns.DiskFailed → ⊥
full_not_disk e = cc e

is_err : {r : Result Turn TurnFault} {f : TurnFault} → r ≡ Err f → IsErr r
is_err is = subst (λ (r : Result Turn TurnFault). IsErr r) (sym is) refl

on_ok : {Q : Type 0} {r : Result Turn TurnFault} {x : Turn} → r ≡ Ok x → OnOk r Q → Q
on_ok {Q} is holds = subst (λ (r : Result Turn TurnFault). OnOk r Q) is holds

can_by : (node : Server Held) (t : Turn) → TurnAnswers node (Ok t) → CanTurn node
can_by node (Took k) said = said.0

step_by : (node new : Server Held) (step : ℕ) → step ≡ taken new.past → new.past ≡ with_turn node.past node.came → step ≡ taken node.past + 1
step_by node new step now stood =
    let count : taken new.past ≡ suc (taken node.past) = ap taken stood ∙ turn_takes node.past (inputs_of node.came) in
    omega (arith, now, count)

pub fuse_after-requires : goal.fuse_after-requires
fuse_after-requires c =
    some_by c.args.fuse.now _ (turn_longer c.args.node.now c.args.fuse.now c.requires.healthy c.requires.kept c.requires.early c.turn.new.self c.turn.ensures.disk (subst (λ (r : Result Turn TurnFault). IsOk r) (sym c.in-Ok-Took.is) refl) (λ e. no_turn_fault (sym c.in-Ok-Took.is ∙ e)))

pub returns-in-Ok-Took-clause-ends : goal.returns-in-Ok-Took-clause-ends
returns-in-Ok-Took-clause-ends c =
    let is = c.in-Ok-Took.is in
    let said = subst (λ (r : Result Turn TurnFault). TurnAnswers c.args.node.now r) is c.turn.ensures.answer in
    let ok = subst (λ (r : Result Turn TurnFault). IsOk r) (sym is) refl in
    let can = can_by c.args.node.now c.in-Ok-Took.field-0 said in
    let stood : c.turn.new.self.past ≡ with_turn c.args.node.now.past c.args.node.now.came = ap (λ (s : Server Held). s.past) (on_ok is c.turn.ensures.took) in
    let count : c.taken.result ≡ taken c.args.node.now.past + 1 = step_by c.args.node.now c.turn.new.self c.taken.result c.taken.ensures stood in
    took_ends c.args.node.now c.args.fuse.now c.requires.healthy c.requires.kept c.requires.early c.turn.new.self c.turn.ensures.disk ok (λ e. no_turn_fault (sym is ∙ e)) (all_of c.args.node.now c.args.fuse.now c.requires.healthy c.turn.ensures.inbox can.came)
    (on_ok is c.turn.ensures.took) (c.turn.ensures.healthy ok) (on_ok is c.turn.ensures.later) c.disk-disk.ensures.stands c.fuse_after.result c.fuse_after.ensures c.taken.result count

pub returns-in-Err-Waiting-clause-ends : goal.returns-in-Err-Waiting-clause-ends
returns-in-Err-Waiting-clause-ends c =
    let is : c.turn.result ≡ Err (turns.Waiting c.in-Err-Waiting.absent) = c.in-Err-Waiting.is ∙ ap (λ (x : TurnFault). Err x) c.in-Err-Waiting.field-0-is in
    let same : c.turn.new.self.part ≡ c.args.node.now.part = ap (λ (s : Server Held). s.part) (c.turn.ensures.kept (is_err is)) in
    waits_ends c.args.node.now c.args.fuse.now c.requires.healthy c.requires.kept c.requires.early c.turn.new.self c.turn.ensures.disk c.turn.result c.turn.ensures.refused c.in-Err-Waiting.absent (search rules)
    (subst (λ (p : PartData). p.units ≤ 8) (c.part.ensures ∙ same) (units_few c.part.result.now c.data-part.ensures.part)) is c.turn.ensures.answer

pub unreachable-requires : goal.unreachable-requires
unreachable-requires c =
    turn_had_arm c.args.node.now c.args.fuse.now c.requires.healthy c.requires.kept c.requires.early c.turn.new.self c.turn.ensures.disk (c.in-Err-DiskFailed.is ∙ ap (λ (x : TurnFault). Err x) c.in-Err-DiskFailed.field-0-is) (sym c.take.ensures.value ∙ c.in-None.is)

pub unreachable-unreachable : goal.unreachable-unreachable
unreachable-unreachable c = c.unreachable.result

pub returns-in-Some-clause-ends : goal.returns-in-Some-clause-ends
returns-in-Some-clause-ends c =
    let is : c.turn.result ≡ Err turns.DiskFailed = c.in-Err-DiskFailed.is ∙ ap (λ (x : TurnFault). Err x) c.in-Err-DiskFailed.field-0-is in
    let said = subst (λ (r : Result Turn TurnFault). TurnAnswers c.args.node.now r) is c.turn.ensures.answer in (
      all_of c.args.node.now c.args.fuse.now c.requires.healthy c.turn.ensures.inbox said.0.came,
      turn_broke_off c.args.node.now c.args.fuse.now c.requires.healthy c.requires.kept c.requires.early c.turn.new.self c.turn.ensures.disk is c.in-Some.hit (sym c.take.ensures.value ∙ c.in-Some.is) c.turn.ensures.crash (c.turn.ensures.kept (is_err is)) (c.turn.ensures.failed is),
      c.take.ensures.after,
      sym c.take.ensures.value ∙ c.in-Some.is,
    )

pub returns-in-Err-NoMemory-clause-spared : goal.returns-in-Err-NoMemory-clause-spared
returns-in-Err-NoMemory-clause-spared c =
    let is : c.turn.result ≡ Err turns.NoMemory = c.in-Err-NoMemory.is ∙ ap (λ (x : TurnFault). Err x) c.in-Err-NoMemory.field-0-is in
    λ _. (
      refl,
      turn_spared c.args.node.now c.args.fuse.now c.requires.healthy c.requires.kept c.requires.early c.turn.new.self c.turn.ensures.disk is (λ e. memory_not_disk (turn_fault (sym is ∙ e))) (c.turn.ensures.kept (is_err is)) (c.turn.ensures.no_memory is ∙ c.requires.healthy) c.disk-disk-in-Err-NoMemory.ensures.stands
          c.disarm.new.self c.disarm.ensures,
    )

pub unreachable-requires-in-Err-Reopen : goal.unreachable-requires-in-Err-Reopen
unreachable-requires-in-Err-Reopen c =
    let is : c.turn.result ≡ Err turns.Reopen = c.in-Err-Reopen.is ∙ ap (λ (x : TurnFault). Err x) c.in-Err-Reopen.field-0-is in
    let said = subst (λ (r : Result Turn TurnFault). TurnAnswers c.args.node.now r) is c.turn.ensures.answer in
    true≢false (sym said ∙ c.requires.healthy)

pub unreachable-unreachable-in-Err-Reopen : goal.unreachable-unreachable-in-Err-Reopen
unreachable-unreachable-in-Err-Reopen c = c.unreachable-in-Err-Reopen.result

pub unreachable-requires-in-Err-StepLimit : goal.unreachable-requires-in-Err-StepLimit
unreachable-requires-in-Err-StepLimit c =
    let is : c.turn.result ≡ Err turns.StepLimit = c.in-Err-StepLimit.is ∙ ap (λ (x : TurnFault). Err x) c.in-Err-StepLimit.field-0-is in
    let said = subst (λ (r : Result Turn TurnFault). TurnAnswers c.args.node.now r) is c.turn.ensures.answer in
    let at = said.2 in
    let left = c.requires.steps in
    absurd (omega (arith, at, left))

pub unreachable-unreachable-in-Err-StepLimit : goal.unreachable-unreachable-in-Err-StepLimit
unreachable-unreachable-in-Err-StepLimit c = c.unreachable-in-Err-StepLimit.result

pub unreachable-requires-in-Err-JournalFull : goal.unreachable-requires-in-Err-JournalFull
unreachable-requires-in-Err-JournalFull c =
    let is : c.turn.result ≡ Err turns.JournalFull = c.in-Err-JournalFull.is ∙ ap (λ (x : TurnFault). Err x) c.in-Err-JournalFull.field-0-is in
    let said = subst (λ (r : Result Turn TurnFault). TurnAnswers c.args.node.now r) is c.turn.ensures.answer in
    let same = c.turn.ensures.refused (is_err is) (λ e. full_not_memory (turn_fault (sym is ∙ e))) (λ e. full_not_disk (turn_fault (sym is ∙ e))) in
    let P : Server Held → Type 0 = λ s. IsPlaced told_of s.journal s.part s.past in
    turn_fits c.args.node.now (subst P same c.disk-disk-in-Err-JournalFull.ensures.place) c.requires.not_full said.2 said.1

pub unreachable-unreachable-in-Err-JournalFull : goal.unreachable-unreachable-in-Err-JournalFull
unreachable-unreachable-in-Err-JournalFull c = c.unreachable-in-Err-JournalFull.result

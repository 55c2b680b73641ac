use Rattle.std.proofs.Common.{◌≡◌, ℕ, ◌+◌, ◌∙◌, sym, ap, ap₂, subst, arith, rules, length}
use Rattle.std.specs.Prelude.{List, Option, Some, None, IfSome, Result, Ok, Err}
use Rattle.wf_disk.proofs.Runs.{cause_since, cause_none}
use Rattle.wf_journal.specs.Frames.{header, end_of}
use Rattle.wf_journal.specs.Journal.{IsRead}
use Rattle.wf_parts.specs.declared.data.PartData.{PartData}
use Rattle.wf_codec.specs.Records.{record_of}
use Rattle.wf_histories.specs.Histories.{History}
use Rattle.wf_worlds.specs.Worlds.{first_history}
use Rattle.wf_steps.specs.declared.fault.RecoverFault.{RecoverFault}
use Rattle.wf_steps.specs.Records.{read_on, head_of, history_of}
use Rattle.wf_steps.specs.Recovering.{IsFault, Reads}
use Rattle.wf_codec.specs.declared.record.JournalRecord.TheVariants.{Head}
use Rattle.wf_worlds.specs.Ends.{frame_size}
use Rattle.wf_steps.proofs.Ends.{no_bodies, all_ends}
use Rattle.wf_steps.proofs.Reading.{bodies, history_end, head_more, head_wrong}
use Rattle.wf_steps.proofs.recovery.read_all.Goals as goal

pub returns-in_default-clause-reads : goal.returns-in_default-clause-reads
returns-in_default-clause-reads g c file image place =
    let P : Option ℕ → Type 0 = λ o. IsRead file 0 o c.read.new.into in
    let ends : 0 ≡ end_of file = subst P c.in_default.is (c.in_ok-next.ensures.read file image place) in
    history_end c.args.replica.now.part file place ends ∙ ap (λ (h : History). Ok h) (sym c.requires)

pub returns-in_err-check_head-clause-reads : goal.returns-in_err-check_head-clause-reads
returns-in_err-check_head-clause-reads g c file image place =
    let P : Option ℕ → Type 0 = λ o. IsRead file 0 o c.read.new.into in
    let read : IsRead file 0 (Some c.in-Some.next) c.read.new.into = subst P c.in-Some.is (c.in_ok-next.ensures.read file image place) in
    let Q : Option ℕ → Type 0 = λ o. IfSome o (λ n. n ≡ 0 + (header + length c.read.new.into)) in
    let next : c.in-Some.next ≡ 0 + (header + length c.read.new.into) = subst Q c.in-Some.is c.in_ok-next.ensures.next in
    let next_is : c.in-Some.next ≡ header + length c.read.new.into = omega (arith, next) in
    let part_is : c.data.result.now ≡ c.args.replica.now.part = c.data.ensures.same ∙ c.part.ensures in
    let body_is : c.as_slice.result.now ≡ c.read.new.into = c.as_slice.ensures in
    let F : PartData → List ℕ → Type 0 = λ p b. IsFault (head_of p b (record_of b)) c.in_err-check_head.field-0.0 in
    let wrong : IsFault (head_of c.args.replica.now.part c.read.new.into (record_of c.read.new.into)) c.in_err-check_head.field-0.0 =
    subst (λ (p : PartData). F p c.read.new.into) part_is (subst (λ (b : List ℕ). F c.data.result.now b) body_is c.in_err-check_head.ensures.reads) in
    let err : c.from_residual-in_err-check_head.result ≡ Err c.in_err-check_head.field-0.0 = search rules in
    subst (λ (r : Result (Unit {0}) RecoverFault). Reads (history_of c.args.replica.now.part file) c.args.replica.now.past r) (sym err)
    (head_wrong c.args.replica.now.part file c.read.new.into c.in-Some.next read next_is c.in_err-check_head.field-0.0 wrong)

pub returns-clause-reads : goal.returns-clause-reads
returns-clause-reads g c file image place =
    let P : Option ℕ → Type 0 = λ o. IsRead file 0 o c.read.new.into in
    let read : IsRead file 0 (Some c.in-Some.next) c.read.new.into = subst P c.in-Some.is (c.in_ok-next.ensures.read file image place) in
    let Q : Option ℕ → Type 0 = λ o. IfSome o (λ n. n ≡ 0 + (header + length c.read.new.into)) in
    let next : c.in-Some.next ≡ 0 + (header + length c.read.new.into) = subst Q c.in-Some.is c.in_ok-next.ensures.next in
    let next_is : c.in-Some.next ≡ header + length c.read.new.into = omega (arith, next) in
    let part_is : c.data.result.now ≡ c.args.replica.now.part = c.data.ensures.same ∙ c.part.ensures in
    let body_is : c.as_slice.result.now ≡ c.read.new.into = c.as_slice.ensures in
    let H : PartData → List ℕ → Type 0 = λ p b. head_of p b (record_of b) ≡ Ok (first_history p.unit.0) in
    let head : head_of c.args.replica.now.part c.read.new.into (record_of c.read.new.into) ≡ Ok (first_history c.args.replica.now.part.unit.0) =
    subst (λ (p : PartData). H p c.read.new.into) part_is (subst (λ (b : List ℕ). H c.data.result.now b) body_is c.in_ok-check_head.ensures.reads) in
    let same : history_of c.args.replica.now.part file ≡ read_on c.args.replica.now.part (bodies file c.in-Some.next) c.in-Some.next c.args.replica.now.past =
    head_more c.args.replica.now.part file c.read.new.into c.in-Some.next read next_is (first_history c.args.replica.now.part.unit.0) head
    ∙ ap (read_on c.args.replica.now.part (bodies file c.in-Some.next) c.in-Some.next) (sym c.requires) in
    subst (λ (r : Result History RecoverFault). Reads r c.read_rest.new.replica.past c.read_rest.result) (sym same) (c.read_rest.ensures.reads file (c.read.ensures.same.image ∙ image) read.0)

pub returns-in_default-clause-end : goal.returns-in_default-clause-end
returns-in_default-clause-end g c file image place some =
    let P : Option ℕ → Type 0 = λ o. IsRead file 0 o c.read.new.into in
    let ends : 0 ≡ end_of file = subst P c.in_default.is (c.in_ok-next.ensures.read file image place) in
    absurd (some (no_bodies file place ends))

pub returns-clause-end : goal.returns-clause-end
returns-clause-end g c =
    let part_is : c.data.result.now ≡ c.args.replica.now.part = c.data.ensures.same ∙ c.part.ensures in
    let size : header + length c.read.new.into ≡ frame_size (Head 1 c.args.replica.now.part.chart c.args.replica.now.part.name) =
    ap (λ (b : List ℕ). header + length b) (sym c.as_slice.ensures) ∙ c.in_ok-check_head.ensures.size ∙ ap (λ (p : PartData). frame_size (Head 1 p.chart p.name)) part_is in
    all_ends (g.D.Disk.told c.args.journal.now.disk) (g.D.Disk.told c.read.new.self.disk) c.read_rest.result c.args.replica.now.part c.read_rest.new.replica.part c.args.replica.now.past c.read_rest.new.replica.past c.in-Some.next c.read.new.into
    c.requires c.read.ensures.same.image size
    (let Q : Option ℕ → Type 0 = λ o. IfSome o (λ n. n ≡ 0 + (header + length c.read.new.into)) in subst Q c.in-Some.is c.in_ok-next.ensures.next)
    (λ file image place. let P : Option ℕ → Type 0 = λ o. IsRead file 0 o c.read.new.into in (subst P c.in-Some.is (c.in_ok-next.ensures.read file image place)).0)
    c.read_rest.ensures.end

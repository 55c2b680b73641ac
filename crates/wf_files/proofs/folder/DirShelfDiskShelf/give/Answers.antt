use Rattle.std.proofs.Common.{◌≡◌, ℕ, zero, suc, ◌<◌, inl, inr, refl, ap, arith, ◌∙◌}
use Rattle.std.specs.List.{list_any}
use Rattle.std.specs.Str.{bytes_eq}
use Rattle.std.proofs.lemmas.Bool.{false≢true}
use Rattle.wf_model.specs.Faults.{one_more}
use Rattle.wf_files.specs.Folders.{OnFolder}
use Rattle.wf_files.proofs.Outs.{keeps, gives, back_now, others_back}
use Rattle.wf_files.proofs.folder.DirShelfDiskShelf.give.Goals as goal

pub returns-clause-given : goal.returns-clause-given
returns-clause-given g c =
    gives c.args.unit.now c.args.self.now c.note_back.new.self c.args.disk
    (back_now c.args.unit.now c.count_faults_of.new.self c.note_back.new.self (ap (λ (s : OnFolder). s.out) c.note_back.ensures))

pub returns-clause-others : goal.returns-clause-others
returns-clause-others g c name differs =
    keeps name c.args.self.now c.note_back.new.self
    (others_back c.args.unit.now c.count_faults_of.new.self c.note_back.new.self name differs (ap (λ (s : OnFolder). s.out) c.note_back.ensures)
    ∙ ap (list_any (λ other. bytes_eq other name)) c.count_faults_of.ensures.out)

zero_unless : (n : ℕ) → (0 < n → ⊥) → n ≡ 0
zero_unless zero isnt = refl
zero_unless (suc n) isnt = absurd (isnt (omega arith))

pub returns-clause-cause : goal.returns-clause-cause
returns-clause-cause g c =
    let kept : c.note_back.new.self.faults ≡ c.count_faults_of.new.self.faults = ap (λ (s : OnFolder). s.faults) c.note_back.ensures in
    record {
      later = omega (arith, kept, c.count_faults_of.ensures.later);
      rose = λ failure. elim failure [
        | inl refused ↦ absurd (false≢true refused)
        | inr failed ↦
            let counted = ap (λ (s : OnFolder). s.faults) (c.count_faults_of.ensures.failed failed) in
            let now : c.note_back.new.self.faults ≡ one_more c.args.self.now.faults = kept ∙ counted in
            omega (arith, now)
      ];
      kept = λ sound.
          let none : c.args.disk.faults ≡ 0 = zero_unless c.args.disk.faults (λ some. sound (inr some)) in
          kept ∙ ap (λ (s : OnFolder). s.faults) (c.count_faults_of.ensures.sound none);
    }

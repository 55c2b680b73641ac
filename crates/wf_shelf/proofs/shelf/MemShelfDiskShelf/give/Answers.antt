use Rattle.std.proofs.Common.{◌≡◌, ◌⊎◌, ℕ, zero, suc, ◌+◌, ◌<◌, ◌≤◌, inl, inr, refl, sym, ap, arith, ◌∙◌}
use Rattle.std.proofs.lemmas.Bool.{false≢true}
use Rattle.wf_model.specs.Faults.{one_more, Rose}
use Rattle.wf_shelf.specs.Shelves.{Shelved}
use Rattle.wf_shelf.proofs.shelf.MemShelfDiskShelf.give.Goals as goal

zero_unless : (n : ℕ) → (0 < n → ⊥) → n ≡ 0
zero_unless zero isnt = refl
zero_unless (suc n) isnt = absurd (isnt (omega arith))

pub returns-clause-cause : goal.returns-clause-cause
returns-clause-cause c = record {
  later = omega (arith, c.put.ensures.faults, c.count_faults_of.ensures.later);
  rose = λ failure. elim failure [
    | inl refused ↦ absurd (false≢true refused)
    | inr failed ↦
        let counted = ap (λ (s : Shelved). s.faults) (c.count_faults_of.ensures.failed failed) in
        let now : c.put.new.self.faults ≡ one_more c.args.self.now.faults = c.put.ensures.faults ∙ counted in
        omega (arith, now)
  ];
  kept = λ sound.
      let none : c.args.disk.faults ≡ 0 = zero_unless c.args.disk.faults (λ some. sound (inr some)) in
      c.put.ensures.faults ∙ ap (λ (s : Shelved). s.faults) (c.count_faults_of.ensures.sound none);
}

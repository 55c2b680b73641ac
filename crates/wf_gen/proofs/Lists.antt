-- One more group, transition, admission.
use Rattle.std.proofs.Common.{◌≡◌, ℕ, ◌+◌, ◌++◌, ◌∷◌, [], refl, add-one}
use Rattle.wf_gen.specs.GenChart.{group, groups, transition, transitions}
use Rattle.wf_gen.specs.GenScript.{admissions, admit_and_round}

pub groups-more : (r : ℕ) → groups (r + 1) ≡ groups r ++ group r
unfolding groups
groups-more r = rw add-one refl

pub groups-zero : groups 0 ≡ []
unfolding groups
groups-zero = refl

pub transitions-more : (n t : ℕ) → transitions n (t + 1) ≡ transitions n t ++ transition n t ∷ []
unfolding transitions
transitions-more n t = rw add-one refl

pub transitions-zero : (n : ℕ) → transitions n 0 ≡ []
unfolding transitions
transitions-zero n = refl

pub admissions-more : (x q : ℕ) → admissions x (q + 1) ≡ admissions x q ++ admit_and_round x (q + 1)
unfolding admissions
admissions-more x q = rw add-one refl

pub admissions-zero : (x : ℕ) → admissions x 0 ≡ []
unfolding admissions
admissions-zero x = refl

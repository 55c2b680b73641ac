-- What is done to a unit is what the machine does to the server that counts for it.
use Rattle.std.proofs.Common.{◌≡◌, ℕ, ◌+◌, ◌==◌, ◌&&◌, ◌||◌, min, Bool, true, false, List, [], ◌∷◌, sum, Option, Some, None, is_some, ◌-◌, sym, ap, ap₂, ◌∙◌}
use Rattle.std.proofs.lemmas.List.{map-append, length-map}
use Rattle.wf_model.specs.Limits.{max_sealed}
use Rattle.wf_model.specs.declared.update.Update.{Update}
use Rattle.wf_disk.specs.declared.arm.Arm.{Arm}
use Rattle.wf_disk.specs.declared.arm.Arm.TheVariants.{Fail, Crash}
use Rattle.wf_machine.specs.declared.admission.Admission as of
use Rattle.wf_machine.specs.Strokes.{Fuse, Done, SetOff, strokes}
use Rattle.wf_machine.specs.Bars.{bar_of}
use Rattle.wf_machine.specs.Server.{Works, Record, Admits, Turns, Server, later_than, stand, written_by, written, next_turn, settled, recovered_by, recovered}
use Rattle.wf_machine.specs.Lines.{with_came}
use Rattle.wf_histories.specs.Histories.{Admission, History, seals, taken}
use Rattle.wf_worlds.specs.Growing.{unsealed, admitted, turned}
use Rattle.wf_worlds.proofs.Growing.{turn_seals}
use Rattle.wf_slot.specs.Units.{UnitState, counted, server_of, none_held, down, struck}

-- two that tell the same of each unit and step
came_same : (f g : ℕ → ℕ → Bool) → ((v j : ℕ) → f v j ≡ g v j) → f ≡ g
came_same f g same = λ i v j. same v j i

-- A RECORD STANDS

pub admitted_is : (unit : UnitState) (a : Admission) → server_of (record unit { past = admitted unit.past a }) ≡ stand (Admits (counted a)) (server_of unit)
unfolding stand
admitted_is unit a = ap (λ (xs : List of.Admission). record (server_of unit) { admissions = xs }) (map-append counted unit.past.admissions (a ∷ []))

-- after a turn a unit holds what it held of later steps
pub turned_is : (unit : UnitState) (updates : List Update) (held : ℕ → ℕ → Option Update) →
    ((v j : ℕ) → is_some (held v j) ≡ later_than (taken unit.past + 1) (λ v j. is_some (unit.held v j)) v j) →
    server_of (record unit { past = turned unit.past updates; held = held }) ≡ stand (Turns (min max_sealed (unsealed unit.past))) (server_of unit)
unfolding stand
turned_is unit updates held later =
    ap₂ (λ (sealed : List ℕ) (came : ℕ → ℕ → Bool). record (server_of unit) { sealed = sealed; came = came }) (turn_seals unit.past updates)
    (came_same (λ v j. is_some (held v j)) (later_than (taken unit.past + 1) (λ v j. is_some (unit.held v j))) later)

-- what its next turn writes
pub next_is : (unit : UnitState) → next_turn (server_of unit) ≡ Turns (min max_sealed (unsealed unit.past))
next_is unit = ap (λ (n : ℕ). Turns (min max_sealed n)) (ap (λ (n : ℕ). n - sum (seals unit.past)) (length-map unit.past.admissions counted))

-- A WRITE

-- all its strokes were done
pub wrote : (r : Record) (s : Server) (rest : Option Fuse) → strokes 4 s.fuse ≡ Done rest → written r s ≡ (None, stand r (record s { fuse = rest }))
unfolding written
wrote r s rest met = ap (written_by r s) met

-- one of them set off the arm
pub broke : (unit : UnitState) (r : Record) (n : ℕ) (what : Arm) → strokes 4 unit.fuse ≡ SetOff n what → written r (server_of unit) ≡ (Some (bar_of what), server_of (struck unit n what r))
unfolding written
broke unit r n Fail met = ap (written_by r (server_of unit)) met
broke unit r n (Crash outcome) met = ap (written_by r (server_of unit)) met

-- A RECOVERY

-- its stroke set off the arm
pub recovery_broke : (stands : Bool) (unit : UnitState) (n : ℕ) (what : Arm) → strokes 1 unit.fuse ≡ SetOff n what → recovered stands (server_of unit) ≡ (Some (bar_of what), server_of (record (down unit) { fuse = None }))
unfolding recovered
recovery_broke stands unit n what met = ap (recovered_by stands (server_of unit)) met

-- the unit works, with this history
abbrev pub risen : UnitState → History → Option Fuse → UnitState
risen unit past rest = record unit { health = Works; past = past; held = none_held; fuse = rest; doubt = None }

-- nothing was in doubt
pub rose : (stands : Bool) (unit : UnitState) (rest : Option Fuse) → strokes 1 unit.fuse ≡ Done rest → unit.doubt ≡ None → recovered stands (server_of unit) ≡ (None, server_of (risen unit unit.past rest))
unfolding recovered
rose stands unit rest met none =
    ap (recovered_by stands (server_of unit)) met
    ∙ ap (λ (doubt : Option Record). (None, record (settled stands doubt (record (server_of unit) { doubt = doubt })) { health = Works; came = λ v j. false; fuse = rest })) none

-- the record in doubt doesn't stand
pub rose_without : (unit : UnitState) (r : Record) (rest : Option Fuse) → strokes 1 unit.fuse ≡ Done rest → unit.doubt ≡ Some r → recovered false (server_of unit) ≡ (None, server_of (risen unit unit.past rest))
unfolding recovered
rose_without unit r rest met doubt =
    ap (recovered_by false (server_of unit)) met
    ∙ ap (λ (d : Option Record). (None, record (settled false d (server_of unit)) { health = Works; came = λ v j. false; fuse = rest })) doubt

-- the admission in doubt stands
pub rose_admitted : (unit : UnitState) (a : Admission) (rest : Option Fuse) → strokes 1 unit.fuse ≡ Done rest → unit.doubt ≡ Some (Admits (counted a)) →
    recovered true (server_of unit) ≡ (None, server_of (risen unit (admitted unit.past a) rest))
unfolding recovered stand
rose_admitted unit a rest met doubt =
    ap (recovered_by true (server_of unit)) met
    ∙ ap (λ (d : Option Record). (None, record (settled true d (server_of unit)) { health = Works; came = λ v j. false; fuse = rest })) doubt
    ∙ ap (λ (xs : List of.Admission). (None, record (server_of (risen unit unit.past rest)) { admissions = xs })) (sym (map-append counted unit.past.admissions (a ∷ [])))

-- the turn in doubt does
pub rose_turned : (unit : UnitState) (updates : List Update) (rest : Option Fuse) → strokes 1 unit.fuse ≡ Done rest → unit.doubt ≡ Some (Turns (min max_sealed (unsealed unit.past))) →
    recovered true (server_of unit) ≡ (None, server_of (risen unit (turned unit.past updates) rest))
unfolding recovered stand
rose_turned unit updates rest met doubt =
    ap (recovered_by true (server_of unit)) met
    ∙ ap (λ (d : Option Record). (None, record (settled true d (server_of unit)) { health = Works; came = λ v j. false; fuse = rest })) doubt
    ∙ ap (λ (sealed : List ℕ). (None, record (server_of (risen unit unit.past rest)) { sealed = sealed })) (sym (turn_seals unit.past updates))

-- WHAT COMES

pub came_is : (unit : UnitState) (v j : ℕ) (held : ℕ → ℕ → Option Update) → ((w k : ℕ) → is_some (held w k) ≡ (((w == v) && (k == j)) || is_some (unit.held w k))) → server_of (record unit { held = held }) ≡ with_came v j (server_of unit)
came_is unit v j held now =
    ap (λ (came : ℕ → ℕ → Bool). record (server_of unit) { came = came }) (came_same (λ w k. is_some (held w k)) (λ w k. ((w == v) && (k == j)) || is_some (unit.held w k)) now)

-- The names: the first that isn't one, or was used before.
use Rattle.std.specs.Prelude.{ℕ, ◌-◌, ◌&&◌, Bool, if◌then◌else◌, nat_lt, List, [], ◌∷◌, length, map, Option}
use Rattle.std.specs.Borrow.{Bor}
use Rattle.std.specs.Option.{option_map}
use Rattle.wf_model.specs.declared.chart.Chart.{Chart}
use Rattle.wf_model.specs.Names.{is_name}
use Rattle.wf_model.specs.Accepted.{names_of, is_new}
use Rattle.wf_check.specs.declared.fault.What.{What}
use Rattle.wf_check.specs.declared.fault.What.TheVariants as what
use Rattle.wf_check.specs.declared.fault.CheckFault.{CheckFault}
use Rattle.wf_check.specs.declared.fault.CheckFault.TheVariants.{BadName}
use Rattle.wf_check.specs.Firsts.{first_failing_numbered, unless, first_some}

-- the bytes of each name that is lent
abbrev pub texts : List (Bor (List ℕ)) → List (List ℕ)
texts names = map (λ name. name.now) names

-- the name is one, and is none of those before it
abbrev pub is_good_name : List (List ℕ) → ℕ → List ℕ → Bool
is_good_name names n name = is_name name && is_new names n name

-- the first of these names that isn't good
abbrev pub bad_name : List (List ℕ) → Option ℕ
bad_name names = first_failing_numbered (is_good_name names) names

-- where kinds of so many names stand one after another, and names of the last kind follow: the fault of the n-th name
abbrev pub named_in : List (What × ℕ) → What → ℕ → CheckFault
named_in [] last n = BadName last n
named_in (kind ∷ more) last n = if nat_lt n kind.1 then BadName kind.0 n else named_in more last (n - kind.1)

-- the fault of the n-th of all names but the chart's
abbrev pub name_fault_of : Chart → ℕ → CheckFault
name_fault_of c n =
    named_in
    ((what.Units, length c.units)
    ∷ (what.Events, length c.events)
    ∷ (what.Vars, length c.vars)
    ∷ (what.Activities, length c.acts)
    ∷ [])
    what.States
    n

-- the chart's name is looked at first, and doesn't count as used
unfoldable pub name_fault : Chart → Option CheckFault
name_fault c = first_some (unless (is_name c.name) (BadName what.Chart 0) ∷ option_map (name_fault_of c) (bad_name (names_of c)) ∷ [])

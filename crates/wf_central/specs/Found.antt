-- Inner. How the pending completions are found.
use Rattle.std.specs.Prelude.{ℕ, ◌≡◌, ◌==◌, ◌&&◌, List, Option, Some, None}
use Rattle.std.specs.List.{list_any}
use Rattle.wf_model.specs.declared.outer.Outer.{Outer}
use Rattle.wf_model.specs.declared.outer.Outer.TheVariants.{Happen, Complete}
use Rattle.wf_model.specs.declared.outer.Entry.{Entry}
use Rattle.wf_semantics.specs.Admission.{is_pending}

-- the unit and the number of the item that an outer at unit u completes
abbrev pub completed_by : ℕ → Outer → Option (ℕ × ℕ)
completed_by u (Happen e) = None
completed_by u (Complete n a outputs) = Some (u, n)

-- the keys are the units and items that these entries complete
abbrev pub AreFound : List (ℕ × ℕ) → List Entry → Type 0
AreFound keys entries = (u n : ℕ) → list_any (λ k. (u == k.0) && (n == k.1)) keys ≡ is_pending entries u n

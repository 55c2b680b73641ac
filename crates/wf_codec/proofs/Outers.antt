-- Outers: a happening or a completion, by its kind.
use Rattle.std.proofs.Common.{◌≡◌, ℕ, zero, suc, ◌+◌, ◌^◌, ◌<◌, ◌≤◌, cond, eqb, List, [], ◌∷◌, ◌++◌, length, Option, None, Result, refl, sym, ap, subst, arith}
use Rattle.std.specs.List.{flat_map}
use Rattle.std.specs.Int.{w32}
use Rattle.wf_model.specs.Limits.{max_outputs}
use Rattle.wf_model.specs.declared.outer.Output.{Output}
use Rattle.wf_model.specs.declared.outer.Outer.{Outer}
use Rattle.wf_model.specs.declared.outer.Outer.TheVariants.{Happen, Complete}
use Rattle.wf_codec.specs.declared.fault.Misfit.{Misfit}
use Rattle.wf_codec.specs.declared.field.Numbers.{Numbers}
use Rattle.wf_codec.specs.Tags.{happen_kind, complete_kind}
use Rattle.wf_codec.specs.Spelling.{two, four, output_spelling, outer_spelling}
use Rattle.wf_codec.specs.Ranges.{IsOuter, IsHeldOuter, IsHeldValue}
use Rattle.wf_codec.specs.Fields.{happening_at, completion_at, outer_at}
use Rattle.wf_codec.proofs.Readers.{Reads, Reads-then, Reads-as, Reads-of}
use Rattle.wf_codec.proofs.Numbers.{IsWithin, one_byte, Reads-byte, Reads-two, Reads-number, wide32}
use Rattle.wf_codec.proofs.Lists.{EachFits, Reads-items, each_alone, all_fit, all_both, all_as}
use Rattle.wf_codec.proofs.Items.{IsOutput, Reads-output}

abbrev kind_of : Outer → ℕ
kind_of (Happen e) = happen_kind
kind_of (Complete item act outputs) = complete_kind

abbrev behind_kind : Outer → List ℕ
behind_kind (Happen e) = two e.0
behind_kind (Complete item act outputs) = four item ++ (two act.0 ++ length outputs ∷ flat_map output_spelling outputs)

-- the number of the event or of the activity
abbrev number_of : Outer → ℕ
number_of (Happen e) = e.0
number_of (Complete item act outputs) = act.0

abbrev item_of : Outer → ℕ
item_of (Happen e) = 0
item_of (Complete item act outputs) = item

abbrev outputs_of : Outer → List Output
outputs_of (Happen e) = []
outputs_of (Complete item act outputs) = outputs

-- an outer whose numbers are in their ranges, and that a program may hold
abbrev pub IsWhole : Numbers → Outer → Type 0
IsWhole numbers o = IsOuter numbers o × IsHeldOuter o

-- the numbers are some that two bytes can spell
abbrev pub AreSmall : Numbers → Type 0
AreSmall numbers = (numbers.events ≤ 2 ^ 16) × (numbers.acts ≤ 2 ^ 16) × (numbers.vars ≤ 2 ^ 16)

abbrev IsOfKind : Numbers → ℕ → Outer → Type 0
IsOfKind numbers kind o = (kind_of o ≡ kind) × IsWhole numbers o

happening_fits : (numbers : Numbers) (o : Outer) → IsOfKind numbers happen_kind o → IsWithin 0 numbers.events (number_of o) × (o ≡ Happen (record { 0 = number_of o }))
happening_fits numbers (Happen e) h = ((omega arith, h.1.0), refl)
happening_fits numbers (Complete item act outputs) h = absurd (omega arith)

Reads-happening : (numbers : Numbers) → AreSmall numbers → Reads (happening_at numbers) behind_kind (IsOfKind numbers happen_kind)
unfolding happening_at
Reads-happening numbers small =
    Reads-as behind_kind (IsOfKind numbers happen_kind)
    (Reads-of number_of (λ n. Happen (record { 0 = n })) (Reads-two 0 numbers.events small.0) (λ n fit. refl))
    (λ o fit. subst (λ (p : Outer). two (number_of p) ≡ behind_kind p) (sym fit.1) refl)
    (λ o fit. subst (λ (p : Outer). IsOfKind numbers happen_kind p) (sym fit.1) (refl, (fit.0.1, tt)))
    (happening_fits numbers)

-- the parts of a completion
abbrev AreParts : Numbers → Outer → Type 0
AreParts numbers o =
    IsWithin 1 (2 ^ 32) (item_of o) × (IsWithin 0 numbers.acts (number_of o) × (IsWithin 0 (max_outputs + 1) (length (outputs_of o))
    × (((length (outputs_of o) ≡ length (outputs_of o)) × EachFits (λ b. IsOutput numbers) None (outputs_of o)) × (o ≡ Complete (item_of o) (record { 0 = number_of o }) (outputs_of o)))))

completion_is : (numbers : Numbers) (o : Outer) → AreParts numbers o → IsOfKind numbers complete_kind o
completion_is numbers o (item, (act, (count, ((len, fits), same)))) =
    let each = each_alone (IsOutput numbers) None (outputs_of o) fits in
    let below = all_as (IsOutput numbers) (λ p. p.var.0 < numbers.vars) (λ p h. h.0) (outputs_of o) each in
    let held = all_as (IsOutput numbers) (λ p. IsHeldValue p.val) (λ p h. h.1) (outputs_of o) each in
    subst (λ (p : Outer). IsOfKind numbers complete_kind p) (sym same) (refl, ((item.0, act.1, omega (arith, count.1), below), (item.1, held)))

completion_fits : (numbers : Numbers) (o : Outer) → IsOfKind numbers complete_kind o → AreParts numbers o
completion_fits numbers (Happen e) h = absurd (omega arith)
completion_fits numbers (Complete item act outputs) (kind, (ranges, held)) =
    let each = all_both (λ p. p.var.0 < numbers.vars) (λ p. IsHeldValue p.val) outputs ranges.3 held.1 in
    ((ranges.0, held.0), ((omega arith, ranges.1), ((omega arith, omega (arith, ranges.2)), ((refl, all_fit (IsOutput numbers) None outputs each), refl))))

Reads-completion : (numbers : Numbers) → AreSmall numbers → Reads (completion_at numbers) behind_kind (IsOfKind numbers complete_kind)
unfolding completion_at
Reads-completion numbers small =
    Reads-as behind_kind (IsOfKind numbers complete_kind)
    (Reads-then item_of (Reads-number w32 (2 ^ 32) wide32 1 (2 ^ 32) (omega arith))
    (λ item item_fits. Reads-then number_of (Reads-two 0 numbers.acts small.1)
    (λ act act_fits. Reads-then (λ (o : Outer). length (outputs_of o)) (Reads-byte 0 (max_outputs + 1))
    (λ n n_fits. Reads-of outputs_of (λ outputs. Complete item (record { 0 = act }) outputs)
    (Reads-items (Reads-output numbers small.2) n None) (λ outputs fit. refl))
    (λ n o fit fits. fits.0.0))
    (λ act o fit fits. ap number_of fits.1.1))
    (λ item o fit fits. ap item_of fits.1.1.1))
    (λ o fit. subst (λ (p : Outer). four (item_of p) ++ (two (number_of p) ++ length (outputs_of p) ∷ flat_map output_spelling (outputs_of p)) ≡ behind_kind p) (sym fit.1.1.1.1) refl)
    (completion_is numbers) (completion_fits numbers)

Reads-kind : (numbers : Numbers) (kind : ℕ) → AreSmall numbers → IsWithin happen_kind (complete_kind + 1) kind
    → Reads (λ bytes. cond {A = Result (Outer × List ℕ) Misfit} (eqb kind happen_kind) (happening_at numbers bytes) (completion_at numbers bytes)) behind_kind (IsOfKind numbers kind)
Reads-kind numbers zero small h = Reads-happening numbers small
Reads-kind numbers (suc zero) small h = Reads-completion numbers small
Reads-kind numbers (suc (suc n)) small h = absurd (omega arith)

kind_spelling : (o : Outer) → one_byte (kind_of o) ++ behind_kind o ≡ outer_spelling o
unfolding outer_spelling
kind_spelling (Happen e) = refl
kind_spelling (Complete item act outputs) = refl

kind_within : (o : Outer) → IsWithin happen_kind (complete_kind + 1) (kind_of o)
kind_within (Happen e) = (omega arith, omega arith)
kind_within (Complete item act outputs) = (omega arith, omega arith)

pub Reads-outer : (numbers : Numbers) → AreSmall numbers → (before : Option Outer) → Reads (outer_at numbers before) outer_spelling (IsWhole numbers)
unfolding outer_at
Reads-outer numbers small before =
    Reads-as outer_spelling (IsWhole numbers)
    (Reads-then kind_of (Reads-byte happen_kind (complete_kind + 1)) (λ kind fit. Reads-kind numbers kind small fit) (λ kind o fit fits. fits.0))
    (λ o fit. kind_spelling o) (λ o fit. fit.1.1) (λ o fit. (kind_within o, (refl, fit)))

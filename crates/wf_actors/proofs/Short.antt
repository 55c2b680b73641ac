-- A set that isn't empty has a unit.
use Rattle.std.proofs.Common.{◌≡◌, ◌≢◌, ℕ, zero, suc, ◌/◌, ◌%◌, ◌*◌, ◌^◌, ◌<◌, ◌==◌, ◌&&◌, not, nat_lt, Bool, true, false, true≢false, List, Option, Some, None, is_some, if◌then◌else◌, refl, sym, ap, ◌∙◌, arith, rules, eq-eqb}
use Rattle.std.specs.Int.{bit_at}
use Rattle.std.specs.Prelude.{IsSome}
use Rattle.std.proofs.lemmas.Nat.Bits.{bit_at_lowest, bit_at-suc}
use Rattle.wf_model.specs.declared.update.Update.{Update}
use Rattle.wf_parts.specs.declared.data.PartData.{PartData}
use Rattle.wf_server.specs.Servers.{held_in}
use Rattle.wf_server.specs.Inbox.{AllCame, is_missing, AreMissing}

-- a number without a bit
zero_bits : (n x : ℕ) → x < 2 ^ n → ((i : ℕ) → i < n → bit_at x i ≡ 0) → x ≡ 0
zero_bits zero x small none = omega (arith, small)
zero_bits (suc n) x small none =
    let power : 2 ^ suc n ≡ 2 * 2 ^ n = search arith in
    let half : x / 2 < 2 ^ n = omega (arith, small, power) in
    let rest : x / 2 ≡ 0 = zero_bits n (x / 2) half (λ i lt. sym (bit_at-suc x i) ∙ none (suc i) (omega arith)) in
    let low : bit_at x 0 ≡ x % 2 = bit_at_lowest x in
    let first = none 0 (omega arith) in
    omega (arith, rest, low, first)

-- a unit whose update came isn't missing
missing_by : (within own : Bool) (o : Option Update) → (within ≡ true → own ≡ false → IsSome o) → (within && (not own && not (is_some o))) ≡ false
missing_by false own o came = refl
missing_by true true o came = refl
missing_by true false (Some x) came = refl
missing_by true false None came = absurd (true≢false (sym (came refl refl)))

not_missing : (part : PartData) (came : List (Option Update)) → AllCame part came → (v : ℕ) → is_missing part came v ≡ false
not_missing part came all v =
    missing_by (nat_lt v part.units) (v == part.unit.0) (held_in came v)
    (λ within own. all v (record { within = search (rules, within); other = (λ e. true≢false (sym (eq-eqb v part.unit.0 e) ∙ own)) }))

-- so all can't have come if some are missing
pub some_missing : (part : PartData) (came : List (Option Update)) (set : ℕ) → set < 2 ^ 8 → AreMissing part came set → set ≢ 0 → AllCame part came → ⊥
some_missing part came set small missing some all =
    some (zero_bits 8 set small (λ v lt. missing v lt ∙ ap (λ (b : Bool). if b then 1 else 0) (not_missing part came all v)))

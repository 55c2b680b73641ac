-- The bytes of a token, where its places may lie past the line's end.
use Rattle.std.proofs.Common.{◌≡◌, ◌≤◌, ℕ, ◌-◌, List, [], length, take, drop, min, sym, ◌∙◌, ap, ap₂, inl, inr, arith, length-drop}
use Rattle.std.proofs.lemmas.List.{take_all, drop_all}
use Rattle.std.proofs.lemmas.Bool.{cases_lt}
use Rattle.std.specs.List.{slice_range}

-- none
none : (line : List ℕ) (start end : ℕ) → end ≤ start → slice_range line start end ≡ []
none line start end h = let zero_long : end - start ≡ 0 = omega arith in ap (λ n. take n (drop start line)) zero_long

none_past : (line : List ℕ) (start end : ℕ) → length line ≤ start → slice_range line start end ≡ []
none_past line start end h = ap (take (end - start)) (drop_all start line h) ∙ take_all (end - start) [] (omega arith)

-- up to the line's end
up_to_end : (line : List ℕ) (start end : ℕ) → length line ≤ end → slice_range line start (length line) ≡ slice_range line start end
up_to_end line start end h =
    take_all (length line - start) (drop start line) (omega (arith, length-drop start line))
    ∙ sym (take_all (end - start) (drop start line) (omega (arith, length-drop start line)))

same : (line : List ℕ) (s t e f : ℕ) → s ≡ t → e ≡ f → slice_range line s e ≡ slice_range line t f
same line s t e f p q = ap₂ (slice_range line) p q

pub spelled : (line : List ℕ) (start end : ℕ) → slice_range line (min (min (length line) end) start) (min (length line) end) ≡ slice_range line start end
spelled line start end =
    elim (cases_lt end start) [
      | inl before ↦ none line (min (min (length line) end) start) (min (length line) end) (omega arith) ∙ sym (none line start end (omega (arith, before)))
      | inr behind ↦
          elim (cases_lt (length line) start) [
            | inl past ↦ none line (min (min (length line) end) start) (min (length line) end) (omega arith) ∙ sym (none_past line start end (omega (arith, past)))
            | inr within ↦
                elim (cases_lt (length line) end) [
                  | inl long ↦ same line (min (min (length line) end) start) start (min (length line) end) (length line) (omega arith) (omega arith) ∙ up_to_end line start end (omega (arith, long))
                  | inr short ↦ same line (min (min (length line) end) start) start (min (length line) end) end (omega arith) (omega arith)
                ]
          ]
    ]

-- Of the laws. How tokens stand in their text.
use Rattle.std.specs.Prelude.{◌≡◌, ℕ, ◌+◌, Bool, true, false, not, ◌||◌, ◌&&◌, ◌==◌, List, [], ◌∷◌, ◌++◌, length, Some, IsTrue}
use Rattle.wf_lex.specs.declared.token.TokenKind.{TokenKind}
use Rattle.wf_lex.specs.declared.token.Token.{Token}
use Rattle.wf_lex.specs.Lex.{is_blank, token_at}

-- The bytes are blanks and comments alone. The first flag says that a comment may reach their end, the second that they begin in one.
abbrev pub is_passed_over : Bool → Bool → List ℕ → Bool
is_passed_over at_end comment [] = at_end || not comment
is_passed_over at_end true (b ∷ bs) = is_passed_over at_end (not (b == 10)) bs
is_passed_over at_end false (b ∷ bs) = (is_blank b || b == 35) && is_passed_over at_end (not (is_blank b)) bs

-- the body is a whole token of this kind, the one that `token_at` answers there
abbrev pub IsToken : TokenKind → (body rest : List ℕ) → Type 0
IsToken kind [] rest = ⊥
IsToken kind (b ∷ bs) rest = token_at b (bs ++ rest) ≡ Some (kind, length bs)

-- The bytes from this place on are blanks and comments, then a token from its start to its end, and so on, and blanks and comments
-- behind the last token. The flag says that they begin in a comment.
abbrev pub AreSlices : Bool → ℕ → List ℕ → List Token → Type 0
AreSlices comment at bytes [] = IsTrue (is_passed_over true comment bytes)
AreSlices comment at bytes (t ∷ ts) =
    (gap : List ℕ) × (body : List ℕ) × (rest : List ℕ)
    × (bytes ≡ gap ++ (body ++ rest))
    × IsTrue (is_passed_over false comment gap)
    × (t.start ≡ at + length gap)
    × (t.end ≡ t.start + length body)
    × IsToken t.kind body rest
    × AreSlices false t.end rest ts

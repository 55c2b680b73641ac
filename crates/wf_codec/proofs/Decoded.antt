-- What decoding answers: the update that begins the bytes, with how many of them spell it.
use Rattle.std.proofs.Common.{◌≡◌, ℕ, suc, ◌+◌, ◌-◌, Bool, true, false, cond, eqb, List, [], ◌∷◌, ◌++◌, length, None, Result, Ok, Err, refl, sym, ap, subst, ◌∙◌, arith}
use Rattle.std.specs.Prelude.{IfOk}
use Rattle.std.proofs.lemmas.List.{length-append}
use Rattle.wf_model.specs.declared.update.Update.{Update}
use Rattle.wf_codec.specs.declared.fault.Misfit.{Misfit}
use Rattle.wf_codec.specs.declared.fault.Misfit.TheVariants.{Short, Bad}
use Rattle.wf_codec.specs.declared.fault.CodecFault.{CodecFault}
use Rattle.wf_codec.specs.declared.fault.CodecFault.TheVariants as codec
use Rattle.wf_codec.specs.Tags.{update_tag}
use Rattle.wf_codec.specs.Spelling.{spelling_of}
use Rattle.wf_codec.specs.Ranges.{chart_numbers, IsUpdate}
use Rattle.wf_codec.specs.Fields.{update_at, told, decoded}
use Rattle.wf_codec.specs.Answers.{Answers}
use Rattle.wf_codec.proofs.Readers.{IsBytes, ok_is}
use Rattle.wf_codec.proofs.Updates.{update_takes, update_again}

-- the update that begins the bytes, with the length of its spelling
abbrev pub Begins : List ℕ → Update × ℕ → Type 0
Begins bytes x = IsUpdate x.0 × (x.1 ≡ length (spelling_of x.0)) × (rest : List ℕ) × (bytes ≡ spelling_of x.0 ++ rest)

told_ok : (len : ℕ) (r : Result (Update × List ℕ) Misfit) (x : Update × ℕ) → told len r ≡ Ok x → (left : List ℕ) × (r ≡ Ok (x.0, left)) × (x.1 ≡ len - length left)
told_ok len (Ok (u, left)) x e =
    let same : (u, len - length left) ≡ x = cc in
    (left, ap (λ (y : Update × ℕ). Ok (y.0, left)) same, sym (ap (λ (y : Update × ℕ). y.1) same))
told_ok len (Err Short) x e = absurd cc
told_ok len (Err (Bad left)) x e = absurd cc

tag_ok : (b : Bool) (r : Result (Update × ℕ) CodecFault) (x : Update × ℕ) → cond b r (Err codec.BadTag) ≡ Ok x → r ≡ Ok x
tag_ok true r x e = e
tag_ok false r x e = absurd cc

pub decoded_takes : (bytes : List ℕ) (x : Update × ℕ) → IsBytes bytes → decoded bytes ≡ Ok x → Begins bytes x
unfolding decoded
decoded_takes [] x fits e = absurd cc
decoded_takes (tag ∷ bytes) x fits e =
    let t = told_ok (suc (length bytes)) (update_at chart_numbers None (tag ∷ bytes)) x (tag_ok (eqb tag update_tag) (told (suc (length bytes)) (update_at chart_numbers None (tag ∷ bytes))) x e) in
    let u = update_takes (tag ∷ bytes) x.0 t.0 fits t.1 in
    let len : suc (length bytes) ≡ length (spelling_of x.0) + length t.0 = ap length u.0.parts ∙ length-append (spelling_of x.0) t.0 in
    (u.1, omega (arith, len, t.2), t.0, u.0.parts)

-- bytes with an update's tag
tagged : (bytes : List ℕ) → decoded (update_tag ∷ bytes) ≡ told (suc (length bytes)) (update_at chart_numbers None (update_tag ∷ bytes))
unfolding decoded
tagged bytes = refl

spelled_tagged : (u : Update) (rest : List ℕ) → decoded (spelling_of u ++ rest) ≡ told (length (spelling_of u ++ rest)) (update_at chart_numbers None (spelling_of u ++ rest))
unfolding spelling_of
spelled_tagged u rest = tagged _

pub decoded_again : (u : Update) (rest : List ℕ) → IsUpdate u → decoded (spelling_of u ++ rest) ≡ Ok (u, length (spelling_of u))
decoded_again u rest is =
    let len : length (spelling_of u ++ rest) - length rest ≡ length (spelling_of u) = omega (arith, length-append (spelling_of u) rest) in
    spelled_tagged u rest ∙ ap (told (length (spelling_of u ++ rest))) (update_again u rest is) ∙ ap (λ (n : ℕ). Ok (u, n)) len

-- two updates with spellings at the front of the same bytes are one
pub one_spelling : (a b : Update) (x y : List ℕ) → IsUpdate a → IsUpdate b → spelling_of a ++ x ≡ spelling_of b ++ y → (a ≡ b) × (x ≡ y)
one_spelling a b x y is_a is_b e =
    let same = ok_is (a, x) (b, y) (sym (update_again a x is_a) ∙ ap (update_at chart_numbers None) e ∙ update_again b y is_b) in
    (ap (λ (p : Update × List ℕ). p.0) same, ap (λ (p : Update × List ℕ). p.1) same)

-- ---- the clauses of a function that answers what decoding answers

pub is_found : (bytes : List ℕ) (result : Result (Update × ℕ) CodecFault) → IsBytes bytes → Answers result (decoded bytes) → IfOk result (Begins bytes)
is_found bytes (Ok x) fits answers = decoded_takes bytes x fits answers
is_found bytes (Err e) fits answers = tt

pub is_only : (bytes : List ℕ) (result : Result (Update × ℕ) CodecFault) → Answers result (decoded bytes)
    → (u : Update) (rest : List ℕ) → IsUpdate u → bytes ≡ spelling_of u ++ rest → Answers result (Ok (u, length (spelling_of u)))
is_only bytes result answers u rest is e = subst (λ (r : Result (Update × ℕ) CodecFault). Answers result r) (ap decoded e ∙ decoded_again u rest is) answers

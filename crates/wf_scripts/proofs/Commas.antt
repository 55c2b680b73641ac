-- One more output of an item.
use Rattle.std.proofs.Common.{◌≡◌, ℕ, Bool, true, false, List, [], ◌∷◌, ◌++◌, length, take, drop, ◌-◌, ◌≤◌, not, Option, Some, None, refl, sym, ◌∙◌, ap, if◌then◌else◌, inl, inr, append_assoc, arith, true≢false}
use Rattle.std.proofs.lemmas.Bool.{cases_Bool}
use Rattle.std.proofs.lemmas.List.Sums.{take_while-cons}
use Rattle.std.proofs.lemmas.List.{take_all}
use Rattle.wf_model.specs.declared.outer.Output.{Output}
use Rattle.wf_lex.specs.declared.token.Token.{Token}
use Rattle.wf_scripts.specs.Names.{Finder}
use Rattle.wf_scripts.specs.Outers.{is_comma, first_group, between_commas, with_token, output_of, with_output, each_output, IsAdded}

group-comma : (line : List ℕ) (t : Token) (tokens : List Token) → is_comma line t ≡ true → first_group line (t ∷ tokens) ≡ []
group-comma line t tokens comma = take_while-cons (λ t. not (is_comma line t)) t tokens ∙ rw comma refl

group-more : (line : List ℕ) (t : Token) (tokens : List Token) → is_comma line t ≡ false → first_group line (t ∷ tokens) ≡ t ∷ first_group line tokens
group-more line t tokens other = take_while-cons (λ t. not (is_comma line t)) t tokens ∙ rw other refl

-- the groups behind the first one
abbrev pub groups_behind : List ℕ → List Token → List (List Token)
groups_behind line [] = []
groups_behind line (comma ∷ tokens) = between_commas line tokens

-- a part as long as the first group is that group
pub first_group-take : (line : List ℕ) (tokens : List Token) → take (length (first_group line tokens)) tokens ≡ first_group line tokens
first_group-take line [] = refl
first_group-take line (t ∷ tokens) =
    let split = λ (g : List Token). take (length g) (t ∷ tokens) in
    elim (cases_Bool (is_comma line t)) [
      | inl comma ↦ ap split (group-comma line t tokens comma) ∙ sym (group-comma line t tokens comma)
      | inr other ↦ ap split (group-more line t tokens other) ∙ ap (λ (g : List Token). t ∷ g) (first_group-take line tokens) ∙ sym (group-more line t tokens other)
    ]

pub first_group_front : (line : List ℕ) (tokens : List Token) (n : ℕ) → n ≡ length (first_group line tokens) → take n tokens ≡ first_group line tokens
first_group_front line tokens n long = ap (λ k. take k tokens) long ∙ first_group-take line tokens

-- the first group, and those behind it
pub group_split : (line : List ℕ) (tokens : List Token) → between_commas line tokens ≡ first_group line tokens ∷ groups_behind line (drop (length (first_group line tokens)) tokens)
group_split line [] = refl
group_split line (t ∷ tokens) =
    let split = λ (g : List Token). g ∷ groups_behind line (drop (length g) (t ∷ tokens)) in
    elim (cases_Bool (is_comma line t)) [
      | inl comma ↦
          ap (λ b. if b then [] ∷ between_commas line tokens else with_token t (between_commas line tokens)) comma
          ∙ ap split (sym (group-comma line t tokens comma))
      | inr other ↦
          ap (λ b. if b then [] ∷ between_commas line tokens else with_token t (between_commas line tokens)) other
          ∙ ap (with_token t) (group_split line tokens)
          ∙ ap split (sym (group-more line t tokens other))
    ]

-- the outputs that were read, before others
abbrev pub with_outputs : List Output → Option (List Output) → Option (List Output)
with_outputs read None = None
with_outputs read (Some more) = Some (read ++ more)

pub with_outputs-more : (read : List Output) (output : Output) (more : Option (List Output)) → with_outputs (read ++ output ∷ []) more ≡ with_outputs read (with_output (Some output) more)
with_outputs-more read output None = refl
with_outputs-more read output (Some more) = ap Some (append_assoc read (output ∷ []) more)

-- behind a comma
pub behind_comma : (line : List ℕ) (behind : List Token) → 1 ≤ length behind → groups_behind line behind ≡ between_commas line (take (length behind - 1) (drop 1 behind))
behind_comma line [] some = absurd (omega (arith, some))
behind_comma line (comma ∷ tokens) some =
    let long : length tokens ≤ length (comma ∷ tokens) - 1 = omega arith in
    ap (between_commas line) (sym (take_all (length (comma ∷ tokens) - 1) tokens long))

pub no_comma : (line : List ℕ) (behind : List Token) → length behind ≡ 0 → groups_behind line behind ≡ []
no_comma line [] none = refl
no_comma line (comma ∷ tokens) none = absurd (omega (arith, none))

-- what was added, by whether it was
added_output : (o : Option Output) (added : Bool) (before after : List Output) → IsAdded o added before after → added ≡ true → (output : Output) × (o ≡ Some output) × (after ≡ before ++ output ∷ [])
added_output None added before after is there = absurd (true≢false (sym there ∙ is))
added_output (Some output) added before after is there = (output, refl, is.1)

not_added : (o : Option Output) (added : Bool) (before after : List Output) → IsAdded o added before after → added ≡ false → o ≡ None
not_added None added before after is missing = refl
not_added (Some output) added before after is missing = absurd (true≢false (sym is.0 ∙ missing))

-- the outputs of these tokens, where the first group is one
pub outputs_on : (names : Finder) (line : List ℕ) (read after : List Output) (tokens group behind : List Token) (added : Bool) (whole : Option (List Output)) → group ≡ first_group line tokens
    → behind ≡ drop (length (first_group line tokens)) tokens → with_outputs read (each_output names line (between_commas line tokens)) ≡ whole
    → IsAdded (output_of names line group) added read after → added ≡ true → with_outputs after (each_output names line (groups_behind line behind)) ≡ whole
outputs_on names line read after tokens group behind added whole first rest read_so is there =
    let found = added_output (output_of names line group) added read after is there in
    let more = each_output names line (groups_behind line behind) in
    ap (λ (l : List Output). with_outputs l more) found.2 ∙ with_outputs-more read found.0 more
    ∙ ap (λ (o : Option Output). with_outputs read (with_output o more)) (sym found.1)
    ∙ (λ i. with_outputs read (with_output (output_of names line (first i)) (each_output names line (groups_behind line (rest i)))))
    ∙ ap (λ (groups : List (List Token)). with_outputs read (each_output names line groups)) (sym (group_split line tokens)) ∙ read_so

-- where it is none
pub outputs_refused : (names : Finder) (line : List ℕ) (read after : List Output) (tokens group : List Token) (added : Bool) (whole : Option (List Output)) → group ≡ first_group line tokens
    → with_outputs read (each_output names line (between_commas line tokens)) ≡ whole → IsAdded (output_of names line group) added read after → added ≡ false → None ≡ whole
outputs_refused names line read after tokens group added whole first read_so is missing =
    let more = each_output names line (groups_behind line (drop (length (first_group line tokens)) tokens)) in
    ap (λ (o : Option Output). with_outputs read (with_output o more)) (sym (not_added (output_of names line group) added read after is missing))
    ∙ ap (λ (g : List Token). with_outputs read (with_output (output_of names line g) more)) first
    ∙ ap (λ (groups : List (List Token)). with_outputs read (each_output names line groups)) (sym (group_split line tokens)) ∙ read_so

-- Declarations of the grammar are read.
use Rattle.std.proofs.Common.{◌≡◌, ◌≢◌, ℕ, zero, suc, ◌≤◌, true, false, List, [], ◌∷◌, ◌++◌, length, map, Option, Some, None, Ok, pos, neg_ℤ, refl, ◌∙◌, ap, append_assoc, append-nil, length-append, arith}
use Rattle.wf_model.specs.declared.ids.UnitId.{UnitId}
use Rattle.wf_model.specs.declared.ids.VarId.{VarId}
use Rattle.wf_model.specs.declared.value.Sort.{Sort}
use Rattle.wf_model.specs.declared.value.Sort.TheVariants as sorts
use Rattle.wf_model.specs.declared.value.Val.{Val}
use Rattle.wf_model.specs.declared.value.Val.TheVariants as v
use Rattle.wf_lex.specs.declared.token.Token.{Token}
use Rattle.wf_cursor.specs.declared.names.Declared.TheVariants as declared_as_a
use Rattle.wf_cursor.specs.declared.piece.Piece.{Piece}
use Rattle.wf_cursor.specs.declared.piece.Piece.TheVariants as pieces
use Rattle.wf_cursor.specs.Input as input
use Rattle.wf_cursor.specs.Input.{Input, Parser, and_then, ◌>>=◌, ◌>>◌, pure, piece, expect, new_name, with_unit, with_event, with_var, with_act}
use Rattle.wf_phrase.specs.Literals.{sort, literal, number, negative_number, characters}
use Rattle.wf_text.specs.Declarations as reader
use Rattle.wf_text.specs.Declarations.{outputs_from, outputs, outputs_if_any, declaration, declaration_by, declarations_from, declarations}
use Rattle.wf_grammar.specs.Lexemes.{Lexeme, lexeme_of}
use Rattle.wf_grammar.specs.Phrases.{Names, Is, IsNameOf}
use Rattle.wf_grammar.specs.Laws.{first_piece}
use Rattle.wf_grammar.specs.Scopes as scope
use Rattle.wf_grammar.specs.Scopes.{Scope, IsNewName, scope_of}
use Rattle.wf_grammar.specs.Declaring as phrase
use Rattle.wf_grammar.specs.Declaring.{word_of_sort, Literal, AtUnit, Vars, Outputs, Declares, Declarations}
use Rattle.wf_grammar.proofs.Rules.{BeginsNoDeclaration, DeclarationsSpelledAreRead}
use Rattle.wf_grammar.proofs.Inputs.{here}
use Rattle.wf_grammar.proofs.Places.{within}
use Rattle.wf_grammar.proofs.Giving.{Gave, then_gives, pure_gave, next_is, begins, other_piece, expect_gives, take_gives, eat_gives, eat_not, variable_gives, unit_gives, int_gives, negated_int_gives, text_gives, new_name_gives, fits}

-- what this rule reads of these lexemes, where what follows may
abbrev pub GivesAs : {A : Type 0} → List ℕ → Scope → (List Lexeme → Type 0) → Parser A → List Lexeme → A → Type 0
GivesAs text s May p ws x =
    (more : List Lexeme) → May more → (left : List Token) (at count : ℕ) → map (lexeme_of text) left ≡ ws ++ more → Gave text s x more (p (here (within text s) left at count))

abbrev pub Whatever : List Lexeme → Type 0
Whatever more = Unit {0}

abbrev pub NotNext : Piece → List Lexeme → Type 0
NotNext p more = first_piece more ≢ Some p

-- ---- sorts and literals

sort_gives : (text : List ℕ) (s : Scope) (kind : Sort) (w : Lexeme) (ws : List Lexeme) (left : List Token) (at count : ℕ) → map (lexeme_of text) left ≡ w ∷ ws → Is (word_of_sort kind) w
    → Gave text s kind ws (sort (here (within text s) left at count))
unfolding sort
sort_gives text s sorts.Bool w ws left at count is word =
    rw (next_is (within text s) pieces.BoolSort w ws left at count is word)
    (take_gives text s left at count w ws is s (pure sorts.Bool) sorts.Bool ws (λ rest at count is. pure_gave text s sorts.Bool ws rest at count is))
sort_gives text s sorts.Int w ws left at count is word =
    rw (next_is (within text s) pieces.IntSort w ws left at count is word)
    (take_gives text s left at count w ws is s (pure sorts.Int) sorts.Int ws (λ rest at count is. pure_gave text s sorts.Int ws rest at count is))
sort_gives text s sorts.Text w ws left at count is word =
    rw (next_is (within text s) pieces.TextSort w ws left at count is word)
    (take_gives text s left at count w ws is s (pure sorts.Text) sorts.Text ws (λ rest at count is. pure_gave text s sorts.Text ws rest at count is))

literal_gives : (text : List ℕ) (s : Scope) {ws : List Lexeme} {x : Val} → Literal ws x → GivesAs text s Whatever literal ws x
unfolding literal number negative_number characters
literal_gives text s (phrase.literal_true w word) more may left at count is =
    rw (next_is (within text s) pieces.True w more left at count is word)
    (take_gives text s left at count w more is s (pure (v.Bool true)) (v.Bool true) more (λ rest at count is. pure_gave text s (v.Bool true) more rest at count is))
literal_gives text s (phrase.literal_false w word) more may left at count is =
    rw (next_is (within text s) pieces.False w more left at count is word)
    (take_gives text s left at count w more is s (pure (v.Bool false)) (v.Bool false) more (λ rest at count is. pure_gave text s (v.Bool false) more rest at count is))
literal_gives text s (phrase.literal_int w n word reads) more may left at count is =
    rw (next_is (within text s) pieces.Int w more left at count is word)
    (then_gives text s s _ _ _ _ _ _ (int_gives text s left at count w more is n word reads) (λ rest at count is. pure_gave text s (v.Int (pos n)) more rest at count is))
literal_gives text s (phrase.literal_minus minus w n sign word reads) more may left at count is =
    rw (next_is (within text s) pieces.Minus minus (w ∷ more) left at count is sign)
    (take_gives text s left at count minus (w ∷ more) is s (input.negated_int >>= (λ m. pure (v.Int (neg_ℤ (pos m))))) (v.Int (neg_ℤ (pos n))) more (λ rest at count is.
    then_gives text s s _ _ _ _ _ _ (negated_int_gives text s rest at count w more is n word reads) (λ rest at count is. pure_gave text s (v.Int (neg_ℤ (pos n))) more rest at count is)))
literal_gives text s (phrase.literal_text w t word reads) more may left at count is =
    rw (next_is (within text s) pieces.Text w more left at count is word)
    (then_gives text s s _ _ _ _ _ _ (text_gives text s left at count w more is t word reads) (λ rest at count is. pure_gave text s (v.Text t) more rest at count is))

-- ---- units and variables that are named

at_unit_gives : (text : List ℕ) (s : Scope) {us : List Lexeme} {u : Option UnitId} → AtUnit s.names us u → GivesAs text s (NotNext pieces.At) reader.unit_if_any us u
unfolding reader.unit_if_any
at_unit_gives text s phrase.nowhere more may left at count is =
    then_gives text s s _ _ _ _ _ _ (eat_not text s left at count pieces.At more is may) (λ rest at count is. pure_gave text s None more rest at count is)
at_unit_gives text s (phrase.at_unit w n u word name) more may left at count is =
    then_gives text s s _ _ _ _ _ _ (eat_gives text s left at count w (n ∷ more) is pieces.At word) (λ rest at count is.
    then_gives text s s _ _ _ _ _ _ (unit_gives text s rest at count n more is u name) (λ rest at count is. pure_gave text s (Some u) more rest at count is))

-- { , VAR }
data VarsOn (names : Names) : List Lexeme → List VarId → Type 0 where
  vars_end : VarsOn names [] []
  vars_go_on : {ws : List Lexeme} {xs : List VarId} (comma n : Lexeme) (x : VarId) → Is pieces.Comma comma → IsNameOf names (declared_as_a.Var x) n → VarsOn names ws xs
      → VarsOn names (comma ∷ n ∷ ws) (x ∷ xs)

-- a variable, and those that follow it
record FirstVar (names : Names) (ws : List Lexeme) (xs : List VarId) : Type 0 where
  name : Lexeme
  value : VarId
  words : List Lexeme
  values : List VarId
  is : IsNameOf names (declared_as_a.Var value) name
  go_on : VarsOn names words values
  same_words : ws ≡ name ∷ words
  same_values : xs ≡ value ∷ values

first_var : (names : Names) {ws : List Lexeme} {xs : List VarId} → Vars names ws xs → FirstVar names ws xs
first_var names (phrase.one_var n x is) =
    record { name = n; value = x; words = []; values = []; is = is; go_on = vars_end; same_words = refl; same_values = refl }
first_var names (phrase.more_vars {ws} {xs} n comma x is is_comma vars) =
    let f = first_var names vars in
    record {
      name = n;
      value = x;
      words = comma ∷ f.name ∷ f.words;
      values = f.value ∷ f.values;
      is = is;
      go_on = vars_go_on comma f.name f.value is_comma f.is f.go_on;
      same_words = ap (λ ls. n ∷ comma ∷ ls) f.same_words;
      same_values = ap (λ ls. x ∷ ls) f.same_values;
    }

outputs_from_gives : (text : List ℕ) (s : Scope) {ws : List Lexeme} {xs : List VarId} → VarsOn s.names ws xs → (turns : ℕ) (found : List VarId) → length ws ≤ turns
    → GivesAs text s (NotNext pieces.Comma) (outputs_from turns found) ws (found ++ xs)
unfolding outputs_from
outputs_from_gives text s vars_end zero found enough more may left at count is = rw (append-nil found) (pure_gave text s found more left at count is)
outputs_from_gives text s vars_end (suc turns) found enough more may left at count is =
    rw (append-nil found) (then_gives text s s _ _ _ _ _ _ (eat_not text s left at count pieces.Comma more is may) (λ rest at count is. pure_gave text s found more rest at count is))
outputs_from_gives text s (vars_go_on comma n x is_comma name vars) zero found enough more may left at count is = absurd (omega arith)
outputs_from_gives text s (vars_go_on {ws} {xs} comma n x is_comma name vars) (suc turns) found enough more may left at count is =
    rw (← append_assoc found (x ∷ []) xs) (then_gives text s s _ _ _ _ _ _ (eat_gives text s left at count comma (n ∷ (ws ++ more)) is pieces.Comma is_comma) (λ rest at count is.
    then_gives text s s _ _ _ _ _ _ (variable_gives text s rest at count n (ws ++ more) is x name) (λ rest at count is.
    outputs_from_gives text s vars turns (found ++ x ∷ []) (omega arith) more may rest at count is)))

outputs_give : (text : List ℕ) (s : Scope) {ws : List Lexeme} {xs : List VarId} → Vars s.names ws xs → GivesAs text s (NotNext pieces.Comma) outputs ws xs
unfolding outputs
outputs_give text s {xs = xs} vars more may left at count is =
    let f = first_var s.names vars in
    let is' : map (lexeme_of text) left ≡ f.name ∷ (f.words ++ more) = is ∙ ap (λ ls. ls ++ more) f.same_words in
    rw f.same_values (then_gives text s s _ _ _ _ _ _ (variable_gives text s left at count f.name (f.words ++ more) is' f.value f.is) (λ rest at count is.
    outputs_from_gives text s f.go_on (length rest) (f.value ∷ []) (fits text f.words more rest is) more may rest at count is))

outputs_if_any_gives : (text : List ℕ) (s : Scope) {ws : List Lexeme} {xs : List VarId} → Outputs s.names ws xs → (more : List Lexeme) → NotNext pieces.Gives more → NotNext pieces.Comma more
    → (left : List Token) (at count : ℕ) → map (lexeme_of text) left ≡ ws ++ more → Gave text s xs more (outputs_if_any (here (within text s) left at count))
unfolding outputs_if_any
outputs_if_any_gives text s phrase.gives_nothing more no_gives no_comma left at count is =
    then_gives text s s _ _ _ _ _ _ (eat_not text s left at count pieces.Gives more is no_gives) (λ rest at count is. pure_gave text s [] more rest at count is)
outputs_if_any_gives text s (phrase.gives_vars {ws} w word vars) more no_gives no_comma left at count is =
    then_gives text s s _ _ _ _ _ _ (eat_gives text s left at count w (ws ++ more) is pieces.Gives word) (λ rest at count is. outputs_give text s vars more no_comma rest at count is)

-- ---- declarations

unit_declared : (text : List ℕ) (s : Scope) (w n ends : Lexeme) → Is pieces.Unit w → IsNewName s n → Is pieces.Semicolon ends
    → (more : List Lexeme) (left : List Token) (at count : ℕ) → map (lexeme_of text) left ≡ w ∷ n ∷ ends ∷ more
    → Gave text (scope.with_unit n.bytes (scope.unit_named n s)) tt more (reader.unit (here (within text s) left at count))
unfolding reader.unit input.next_unit with_unit
unit_declared text s w n ends word new semicolon more left at count is =
    let between = scope.unit_named n s in
    let after = scope.with_unit n.bytes between in
    then_gives text s after _ _ _ _ _ _ (expect_gives text s left at count w (n ∷ ends ∷ more) is pieces.Unit word) (λ rest at count is.
    then_gives text between after _ _ _ _ _ _ (new_name_gives text s rest at count (declared_as_a.Unit (scope.next_unit s)) n (ends ∷ more) is new) (λ rest at count is.
    then_gives text between after _ _ _ _ _ _ (expect_gives text between rest at count ends more is pieces.Semicolon semicolon) (λ rest at count is.
    pure_gave text after tt more rest at count is)))

event_declared : (text : List ℕ) (s : Scope) (us : List Lexeme) (w n ends : Lexeme) (u : Option UnitId)
    → Is pieces.Event w → IsNewName s n → AtUnit (scope.event_named n s).names us u → Is pieces.Semicolon ends
    → (more : List Lexeme) (left : List Token) (at count : ℕ) → map (lexeme_of text) left ≡ w ∷ n ∷ (us ++ ends ∷ more)
    → Gave text (scope.with_event (record { name = n.bytes; unit = u }) (scope.event_named n s)) tt more (reader.event (here (within text s) left at count))
unfolding reader.event input.next_event with_event
event_declared text s us w n ends u word new placed semicolon more left at count is =
    let between = scope.event_named n s in
    let after = scope.with_event (record { name = n.bytes; unit = u }) between in
    then_gives text s after _ _ _ _ _ _ (expect_gives text s left at count w (n ∷ (us ++ ends ∷ more)) is pieces.Event word) (λ rest at count is.
    then_gives text between after _ _ _ _ _ _ (new_name_gives text s rest at count (declared_as_a.Event (scope.next_event s)) n (us ++ ends ∷ more) is new) (λ rest at count is.
    then_gives text between after _ _ _ _ _ _ (at_unit_gives text between placed (ends ∷ more) (other_piece pieces.Semicolon pieces.At ends (λ e. cc) semicolon) rest at count is) (λ rest at count is.
    then_gives text between after _ _ _ _ _ _ (expect_gives text between rest at count ends more is pieces.Semicolon semicolon) (λ rest at count is.
    pure_gave text after tt more rest at count is))))

var_declared : (text : List ℕ) (s : Scope) (vs : List Lexeme) (w n colon word equal ends : Lexeme) (kind : Sort) (first : Val)
    → Is pieces.Var w → IsNewName s n → Is pieces.Colon colon → Is (word_of_sort kind) word → Is pieces.Equal equal → Literal vs first → Is pieces.Semicolon ends
    → (more : List Lexeme) (left : List Token) (at count : ℕ) → map (lexeme_of text) left ≡ w ∷ n ∷ colon ∷ word ∷ equal ∷ (vs ++ ends ∷ more)
    → Gave text (scope.with_var (record { name = n.bytes; sort = kind; first = first }) (scope.var_named n s)) tt more (reader.variable (here (within text s) left at count))
unfolding reader.variable input.next_var with_var
var_declared text s vs w n colon word equal ends kind first is_var new is_colon is_sort is_equal value semicolon more left at count is =
    let between = scope.var_named n s in
    let after = scope.with_var (record { name = n.bytes; sort = kind; first = first }) between in
    then_gives text s after _ _ _ _ _ _ (expect_gives text s left at count w (n ∷ colon ∷ word ∷ equal ∷ (vs ++ ends ∷ more)) is pieces.Var is_var) (λ rest at count is.
    then_gives text between after _ _ _ _ _ _ (new_name_gives text s rest at count (declared_as_a.Var (scope.next_var s)) n (colon ∷ word ∷ equal ∷ (vs ++ ends ∷ more)) is new) (λ rest at count is.
    then_gives text between after _ _ _ _ _ _ (expect_gives text between rest at count colon (word ∷ equal ∷ (vs ++ ends ∷ more)) is pieces.Colon is_colon) (λ rest at count is.
    then_gives text between after _ _ _ _ _ _ (sort_gives text between kind word (equal ∷ (vs ++ ends ∷ more)) rest at count is is_sort) (λ rest at count is.
    then_gives text between after _ _ _ _ _ _ (expect_gives text between rest at count equal (vs ++ ends ∷ more) is pieces.Equal is_equal) (λ rest at count is.
    then_gives text between after _ _ _ _ _ _ (literal_gives text between value (ends ∷ more) tt rest at count is) (λ rest at count is.
    then_gives text between after _ _ _ _ _ _ (expect_gives text between rest at count ends more is pieces.Semicolon semicolon) (λ rest at count is.
    pure_gave text after tt more rest at count is)))))))

act_declared : (text : List ℕ) (s : Scope) (gs : List Lexeme) (w n at_word place ends : Lexeme) (u : UnitId) (outputs : List VarId)
    → Is pieces.Activity w → IsNewName s n → Is pieces.At at_word → IsNameOf (scope.act_named n s).names (declared_as_a.Unit u) place
    → Outputs (scope.act_named n s).names gs outputs → Is pieces.Semicolon ends
    → (more : List Lexeme) (left : List Token) (at count : ℕ) → map (lexeme_of text) left ≡ w ∷ n ∷ at_word ∷ place ∷ (gs ++ ends ∷ more)
    → Gave text (scope.with_act (record { name = n.bytes; unit = u; outputs = outputs }) (scope.act_named n s)) tt more (reader.activity (here (within text s) left at count))
unfolding reader.activity input.next_act with_act
act_declared text s gs w n at_word place ends u outputs is_act new is_at is_unit gives semicolon more left at count is =
    let between = scope.act_named n s in
    let after = scope.with_act (record { name = n.bytes; unit = u; outputs = outputs }) between in
    then_gives text s after _ _ _ _ _ _ (expect_gives text s left at count w (n ∷ at_word ∷ place ∷ (gs ++ ends ∷ more)) is pieces.Activity is_act) (λ rest at count is.
    then_gives text between after _ _ _ _ _ _ (new_name_gives text s rest at count (declared_as_a.Activity (scope.next_act s)) n (at_word ∷ place ∷ (gs ++ ends ∷ more)) is new) (λ rest at count is.
    then_gives text between after _ _ _ _ _ _ (expect_gives text between rest at count at_word (place ∷ (gs ++ ends ∷ more)) is pieces.At is_at) (λ rest at count is.
    then_gives text between after _ _ _ _ _ _ (unit_gives text between rest at count place (gs ++ ends ∷ more) is u is_unit) (λ rest at count is.
    then_gives text between after _ _ _ _ _ _ (outputs_if_any_gives text between gives (ends ∷ more) (other_piece pieces.Semicolon pieces.Gives ends (λ e. cc) semicolon)
    (other_piece pieces.Semicolon pieces.Comma ends (λ e. cc) semicolon) rest at count is) (λ rest at count is.
    then_gives text between after _ _ _ _ _ _ (expect_gives text between rest at count ends more is pieces.Semicolon semicolon) (λ rest at count is.
    pure_gave text after tt more rest at count is))))))

-- a declaration was read, and so it is said
said : (text : List ℕ) (s : Scope) (more : List Lexeme) (p : Parser (Unit {0})) (k : Input) → Gave text s tt more (p k) → Gave text s true more ((p >> pure true) k)
said text s more p k g = then_gives text s s _ _ _ _ _ _ g (λ rest at count is. pure_gave text s true more rest at count is)

-- a phrase, the token that ends it, and what is behind
ends_behind : (us more : List Lexeme) (ends : Lexeme) → (us ++ ends ∷ []) ++ more ≡ us ++ ends ∷ more
ends_behind us more ends = append_assoc us (ends ∷ []) more

declares_gives : (text : List ℕ) (s : Scope) {ws : List Lexeme} {s' : Scope} → Declares s ws s' → (more : List Lexeme) (left : List Token) (at count : ℕ) → map (lexeme_of text) left ≡ ws ++ more
    → Gave text s' true more (declaration (here (within text s) left at count))
unfolding declaration
declares_gives text s (phrase.declares_unit w n ends word new semicolon) more left at count is =
    rw (next_is (within text s) pieces.Unit w (n ∷ ends ∷ more) left at count is word)
    (said text (scope.with_unit n.bytes (scope.unit_named n s)) more reader.unit (here (within text s) left at count)
    (unit_declared text s w n ends word new semicolon more left at count is))
declares_gives text s (phrase.declares_event {us} w n ends u word new placed semicolon) more left at count is =
    let is' : map (lexeme_of text) left ≡ w ∷ n ∷ (us ++ ends ∷ more) = is ∙ ap (λ ls. w ∷ n ∷ ls) (ends_behind us more ends) in
    rw (next_is (within text s) pieces.Event w (n ∷ (us ++ ends ∷ more)) left at count is' word)
    (said text (scope.with_event (record { name = n.bytes; unit = u }) (scope.event_named n s)) more reader.event (here (within text s) left at count)
    (event_declared text s us w n ends u word new placed semicolon more left at count is'))
declares_gives text s (phrase.declares_var {vs} w n colon word equal ends kind first is_var new is_colon is_sort is_equal value semicolon) more left at count is =
    let is' : map (lexeme_of text) left ≡ w ∷ n ∷ colon ∷ word ∷ equal ∷ (vs ++ ends ∷ more) = is ∙ ap (λ ls. w ∷ n ∷ colon ∷ word ∷ equal ∷ ls) (ends_behind vs more ends) in
    rw (next_is (within text s) pieces.Var w (n ∷ colon ∷ word ∷ equal ∷ (vs ++ ends ∷ more)) left at count is' is_var)
    (said text (scope.with_var (record { name = n.bytes; sort = kind; first = first }) (scope.var_named n s)) more reader.variable (here (within text s) left at count)
    (var_declared text s vs w n colon word equal ends kind first is_var new is_colon is_sort is_equal value semicolon more left at count is'))
declares_gives text s (phrase.declares_act {gs} w n at_word place ends u outputs is_act new is_at is_unit gives semicolon) more left at count is =
    let is' : map (lexeme_of text) left ≡ w ∷ n ∷ at_word ∷ place ∷ (gs ++ ends ∷ more) = is ∙ ap (λ ls. w ∷ n ∷ at_word ∷ place ∷ ls) (ends_behind gs more ends) in
    rw (next_is (within text s) pieces.Activity w (n ∷ at_word ∷ place ∷ (gs ++ ends ∷ more)) left at count is' is_act)
    (said text (scope.with_act (record { name = n.bytes; unit = u; outputs = outputs }) (scope.act_named n s)) more reader.activity (here (within text s) left at count)
    (act_declared text s gs w n at_word place ends u outputs is_act new is_at is_unit gives semicolon more left at count is'))

-- none comes next
none_by : (p : Option Piece) (k : Input) → BeginsNoDeclaration p → declaration_by p k ≡ Ok (false, k)
none_by None k none = refl
none_by (Some pieces.Unit) k none = absurd (none.0 refl)
none_by (Some pieces.Event) k none = absurd (none.1 refl)
none_by (Some pieces.Var) k none = absurd (none.2 refl)
none_by (Some pieces.Activity) k none = absurd (none.3 refl)
none_by (Some _) k none = refl

none_gives : (text : List ℕ) (s : Scope) (more : List Lexeme) (left : List Token) (at count : ℕ) → map (lexeme_of text) left ≡ more → BeginsNoDeclaration (first_piece more)
    → Gave text s false more (declaration (here (within text s) left at count))
unfolding declaration
none_gives text s more left at count is none =
    rw (begins (within text s) (first_piece more) more left at count is refl)
    (record { rest = left; at = at; count = count; rest_is = is; gives = none_by (first_piece more) (here (within text s) left at count) none })

-- a declaration has lexemes
declares_some : (s : Scope) {ws : List Lexeme} {s' : Scope} → Declares s ws s' → 1 ≤ length ws
declares_some s (phrase.declares_unit w n ends a b c) = omega arith
declares_some s (phrase.declares_event w n ends u a b c d) = omega arith
declares_some s (phrase.declares_var w n colon word equal ends kind first a b c d e f g) = omega arith
declares_some s (phrase.declares_act w n at_word place ends u outputs a b c d e f) = omega arith

declarations_from_give : (text : List ℕ) {s s' : Scope} {ws : List Lexeme} → Declarations s ws s' → (turns : ℕ) → length ws ≤ turns
    → (more : List Lexeme) → BeginsNoDeclaration (first_piece more) → (left : List Token) (at count : ℕ) → map (lexeme_of text) left ≡ ws ++ more
    → Gave text s' tt more (declarations_from turns (here (within text s) left at count))
unfolding declarations_from
declarations_from_give text (phrase.no_declaration {s}) zero enough more none left at count is = pure_gave text s tt more left at count is
declarations_from_give text (phrase.no_declaration {s}) (suc turns) enough more none left at count is =
    then_gives text s s _ _ _ _ _ _ (none_gives text s more left at count is none) (λ rest at count is. pure_gave text s tt more rest at count is)
declarations_from_give text (phrase.more_declarations {s} {s'} {s''} {us} {vs} first others) zero enough more none left at count is =
    let some = declares_some s first in
    absurd (omega (arith, length-append us vs))
declarations_from_give text (phrase.more_declarations {s} {s'} {s''} {us} {vs} first others) (suc turns) enough more none left at count is =
    let some = declares_some s first in
    then_gives text s' s'' _ _ _ _ _ _ (declares_gives text s first (vs ++ more) left at count (is ∙ append_assoc us vs more)) (λ rest at count is.
    declarations_from_give text others turns (omega (arith, length-append us vs)) more none rest at count is)

pub declarations_give : (text : List ℕ) (s s' : Scope) (ws : List Lexeme) → Declarations s ws s' → (more : List Lexeme) → BeginsNoDeclaration (first_piece more)
    → (left : List Token) (at count : ℕ) → map (lexeme_of text) left ≡ ws ++ more → Gave text s' tt more (declarations (here (within text s) left at count))
unfolding declarations
declarations_give text s s' ws ds more none left at count is = declarations_from_give text ds (length left) (fits text ws more left is) more none left at count is

pub declarations_spelled : DeclarationsSpelledAreRead
declarations_spelled i s ws more ds is none =
    let g = declarations_give i.text (scope_of i) s ws ds more none i.left i.at i.nodes is in
    record { end = here (within i.text s) g.rest g.at g.count; is_read = g.gives; same_text = refl; declares = refl; left = g.rest_is }

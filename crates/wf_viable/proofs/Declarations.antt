-- Declarations take what their shapes say, and tell a fault of syntax at the first piece that fits none.
use Rattle.std.proofs.Common.{arith, ◌≡◌, ℕ, zero, suc, ◌+◌, ◌≤◌, Bool, true, false, if◌then◌else◌, List, [], ◌∷◌, ◌++◌, length, Option, Some, None, Ok, refl, sym, ◌∙◌, ap, subst, pos, neg_ℤ}
use Rattle.std.proofs.lemmas.List.{length-map}
use Rattle.wf_model.specs.declared.ids.UnitId.{UnitId}
use Rattle.wf_model.specs.declared.ids.VarId.{VarId}
use Rattle.wf_model.specs.Limits.{max_int}
use Rattle.wf_model.specs.declared.value.Sort.TheVariants as sorts
use Rattle.wf_model.specs.declared.value.Val.TheVariants as v
use Rattle.wf_cursor.specs.declared.names.Declared.TheVariants as declared_as_a
use Rattle.wf_cursor.specs.declared.piece.Piece.{Piece}
use Rattle.wf_cursor.specs.declared.piece.Piece.TheVariants as pieces
use Rattle.wf_cursor.specs.Input as input
use Rattle.wf_cursor.specs.Input.{Input, Outcome, Parser, and_then, ◌>>=◌, ◌>>◌, pure, peek, take, syntax, piece, next, eat, expect, new_name, here, changed, next_unit, next_event, next_var, next_act, with_unit, with_event, with_var, with_act}
use Rattle.wf_phrase.specs.Literals.{number, negative_number, characters, literal_by, literal, sort_named, sort_by, sort}
use Rattle.wf_text.specs.Declarations as reader
use Rattle.wf_text.specs.Declarations.{outputs_from, outputs, declaration_by, declaration, declarations_from, declarations}
use Rattle.wf_grammar.specs.Lexemes.{lexeme_of}
use Rattle.wf_grammar.proofs.Inputs.{then_assoc}
use Rattle.wf_grammar.proofs.Reading.{Follow}
use Rattle.wf_grammar.proofs.Follows.{Anything}
use Rattle.wf_viable.specs.Shapes.{Shape, first, One, Maybe, Many, ◌·◌}
use Rattle.wf_viable.specs.Charts.{Literal, Sort, Names, Declaration}
use Rattle.wf_viable.proofs.Fits.{pieces_left, Fits, Productive, Joins, recast, follows_less, then_fits, no_longer}
use Rattle.wf_viable.proofs.Steps.{piece_first, Next, behind_next, Keeps, took_one, stuck_here, then_keeps, expect_fits, new_name_fits, unit_fits, variable_fits, int_fits, text_fits}
use Rattle.wf_viable.proofs.Turns.{none_left}
use Rattle.wf_viable.proofs.Repeats.{some_one, some_then, some_maybe, some_many, Begins, Is, IsNot, any_joins, maybe_some, maybe_none, many_more, many_none, one_then, next_then, eat_fits, regroup, shorter, begins_with, is_apart, word_took}

-- ---- literals

some_literal : Productive Literal
some_literal = record { pieces = pieces.True ∷ []; shaped = Literal.literal_true }

-- the literals that begin with this
abbrev LiteralWith : Piece → Shape
LiteralWith pieces.True = One pieces.True
LiteralWith pieces.False = One pieces.False
LiteralWith pieces.Int = One pieces.Int
LiteralWith pieces.Minus = One pieces.Minus · One pieces.Int
LiteralWith pieces.Text = One pieces.Text
LiteralWith _ = λ ps. ⊥

literal_wider : (p : Piece) (us : List Piece) → LiteralWith p us → Literal us
literal_wider pieces.True us One.one = Literal.literal_true
literal_wider pieces.False us One.one = Literal.literal_false
literal_wider pieces.Int us One.one = Literal.literal_int
literal_wider pieces.Minus us both = subst Literal (sym both.whole) (by_both both.front both.back both.is_front both.is_back)
  where
    by_both : (a b : List Piece) → One pieces.Minus a → One pieces.Int b → Literal (a ++ b)
    by_both a b One.one One.one = Literal.literal_minus
literal_wider pieces.Text us One.one = Literal.literal_text
literal_wider _ us shaped = absurd shaped

literal_narrow : (p : Piece) (us vs : List Piece) → Literal us → first (us ++ vs) ≡ Some p → LiteralWith p us
literal_narrow p us vs Literal.literal_true is = let same : pieces.True ≡ p = cc in subst (λ q. LiteralWith q (pieces.True ∷ [])) same One.one
literal_narrow p us vs Literal.literal_false is = let same : pieces.False ≡ p = cc in subst (λ q. LiteralWith q (pieces.False ∷ [])) same One.one
literal_narrow p us vs Literal.literal_int is = let same : pieces.Int ≡ p = cc in subst (λ q. LiteralWith q (pieces.Int ∷ [])) same One.one
literal_narrow p us vs Literal.literal_minus is =
    let same : pieces.Minus ≡ p = cc in
    subst (λ q. LiteralWith q (pieces.Minus ∷ pieces.Int ∷ [])) same (record { front = pieces.Minus ∷ []; back = pieces.Int ∷ []; whole = refl; is_front = One.one; is_back = One.one })
literal_narrow p us vs Literal.literal_text is = let same : pieces.Text ≡ p = cc in subst (λ q. LiteralWith q (pieces.Text ∷ [])) same One.one

literal_with : {A : Type 0} (i : Input) (p : Piece) (r : Outcome A) → Next p i → Fits i (LiteralWith p) Anything r → Fits i Literal Anything r
literal_with i p r h fits = recast i (LiteralWith p) Literal Anything Anything r (record { wider = literal_wider p; narrow = λ us vs shaped follows is. (literal_narrow p us vs shaped (is ∙ h), tt) }) fits

literal_by_fits : (i : Input) (p : Piece) → Next p i → Fits i Literal Anything (literal_by (Some p) i)
unfolding number negative_number characters input.int input.negated_int
literal_by_fits i pieces.True h = literal_with i pieces.True (literal_by (Some pieces.True) i) h (took_one i (next i) pieces.True h (refl, refl))
literal_by_fits i pieces.False h = literal_with i pieces.False (literal_by (Some pieces.False) i) h (took_one i (next i) pieces.False h (refl, refl))
literal_by_fits i pieces.Int h = literal_with i pieces.Int (number i) h
    (then_keeps i (One pieces.Int) Anything (input.int i) (λ n. pure (v.Int (pos n))) (int_fits i max_int) (λ x j. (refl, refl)))
literal_by_fits i pieces.Minus h = literal_with i pieces.Minus (negative_number i) h
    (next_then i pieces.Minus (One pieces.Int) Anything (negative_number i) h
    (then_keeps (next i) (One pieces.Int) Anything (input.negated_int (next i)) (λ n. pure (v.Int (neg_ℤ (pos n)))) (int_fits (next i) (max_int + 1)) (λ x j. (refl, refl))))
literal_by_fits i pieces.Text h = literal_with i pieces.Text (characters i) h
    (then_keeps i (One pieces.Text) Anything (input.text i) (λ t. pure (v.Text t)) (text_fits i) (λ x j. (refl, refl)))
literal_by_fits i p h = stuck_here i Literal Anything some_literal (λ us vs shaped follows is. literal_narrow p us vs shaped (is ∙ h))

literal_fits : (i : Input) → Fits i Literal Anything (literal i)
unfolding literal
literal_fits i = by_piece (piece i) refl
  where
    by_piece : (q : Option Piece) → piece i ≡ q → Fits i Literal Anything (literal_by q i)
    by_piece None is = stuck_here i Literal Anything some_literal (λ us vs shaped follows at_end. by_literal us vs shaped (at_end ∙ sym (piece_first i) ∙ is))
      where
        by_literal : (us vs : List Piece) → Literal us → first (us ++ vs) ≡ None → ⊥
        by_literal us vs Literal.literal_true h = cc
        by_literal us vs Literal.literal_false h = cc
        by_literal us vs Literal.literal_int h = cc
        by_literal us vs Literal.literal_minus h = cc
        by_literal us vs Literal.literal_text h = cc
    by_piece (Some p) is = literal_by_fits i p (sym (piece_first i) ∙ is)

-- ---- the words of sorts

some_sort : Productive Sort
some_sort = record { pieces = pieces.BoolSort ∷ []; shaped = Sort.sort_bool }

sort_is : (p : Piece) (us vs : List Piece) → Sort us → first (us ++ vs) ≡ Some p → One p us
sort_is p us vs Sort.sort_bool is = let same : pieces.BoolSort ≡ p = cc in subst (λ q. One q (pieces.BoolSort ∷ [])) same One.one
sort_is p us vs Sort.sort_int is = let same : pieces.IntSort ≡ p = cc in subst (λ q. One q (pieces.IntSort ∷ [])) same One.one
sort_is p us vs Sort.sort_text is = let same : pieces.TextSort ≡ p = cc in subst (λ q. One q (pieces.TextSort ∷ [])) same One.one

-- no sort begins so
no_sort : (i : Input) → (q : Option Piece) → piece i ≡ q → ((us vs : List Piece) → Sort us → first (us ++ vs) ≡ q → ⊥) → Fits i Sort Anything (sort_by None i)
no_sort i q is never = stuck_here i Sort Anything some_sort (λ us vs shaped follows at_hand. never us vs shaped (at_hand ∙ sym (piece_first i) ∙ is))

sort_fits : (i : Input) → Fits i Sort Anything (sort i)
unfolding sort
sort_fits i = by_piece (piece i) refl
  where
    by_piece : (q : Option Piece) → piece i ≡ q → Fits i Sort Anything (sort_by (sort_named q) i)
    by_piece (Some pieces.BoolSort) is = word_took i pieces.BoolSort Sort sorts.Bool (sym (piece_first i) ∙ is) Sort.sort_bool (sort_is pieces.BoolSort)
    by_piece (Some pieces.IntSort) is = word_took i pieces.IntSort Sort sorts.Int (sym (piece_first i) ∙ is) Sort.sort_int (sort_is pieces.IntSort)
    by_piece (Some pieces.TextSort) is = word_took i pieces.TextSort Sort sorts.Text (sym (piece_first i) ∙ is) Sort.sort_text (sort_is pieces.TextSort)
    by_piece q is = no_sort i q is by_sort
      where
        by_sort : (us vs : List Piece) → Sort us → first (us ++ vs) ≡ q → ⊥
        by_sort us vs Sort.sort_bool h = cc
        by_sort us vs Sort.sort_int h = cc
        by_sort us vs Sort.sort_text h = cc

-- ---- parts of declarations

-- the shapes of what stands behind the first name
abbrev AtUnit : Shape
AtUnit = One pieces.At · One pieces.Name

abbrev GivesNames : Shape
GivesNames = One pieces.Gives · Names

at_begins : Begins (Is pieces.At) AtUnit
at_begins = begins_with pieces.At (One pieces.Name)

-- [ at UNIT ]
unit_if_any_fits : (i : Input) → Fits i (Maybe AtUnit) (IsNot pieces.At) (reader.unit_if_any i)
unfolding reader.unit_if_any
unit_if_any_fits i = eat_fits i pieces.At (Maybe AtUnit) (IsNot pieces.At) (λ found. if found then (input.unit >>= (λ u. pure (Some u))) else pure None)
    (λ h. maybe_some (Is pieces.At) (IsNot pieces.At) AtUnit at_begins (is_apart pieces.At) i ((input.unit >>= (λ u. pure (Some u))) (next i)) h
    (next_then i pieces.At (One pieces.Name) (IsNot pieces.At) ((input.unit >>= (λ u. pure (Some u))) (next i)) h
    (follows_less (next i) (One pieces.Name) Anything (IsNot pieces.At) ((input.unit >>= (λ u. pure (Some u))) (next i)) (λ q a. tt)
    (then_keeps (next i) (One pieces.Name) Anything (input.unit (next i)) (λ u. pure (Some u)) (unit_fits (next i)) (λ x j. (refl, refl))))))
    (λ absent. maybe_none (Is pieces.At) (IsNot pieces.At) AtUnit at_begins (is_apart pieces.At) {A = Option UnitId} i (Ok (None, i)) absent (refl, refl))

-- { , VAR }
abbrev MoreNames : Shape
MoreNames = One pieces.Comma · One pieces.Name

comma_begins : Begins (Is pieces.Comma) MoreNames
comma_begins = begins_with pieces.Comma (One pieces.Name)

outputs_from_fits : (n : ℕ) (i : Input) (found : List VarId) → length (pieces_left i) ≤ n → Fits i (Many MoreNames) (IsNot pieces.Comma) (outputs_from n found i)
unfolding outputs_from
outputs_from_fits zero i found short =
    many_none (Is pieces.Comma) (IsNot pieces.Comma) MoreNames comma_begins (is_apart pieces.Comma) i (Ok (found, i)) (λ h. (let empty = ap first (none_left i short) in cc)) (refl, refl)
outputs_from_fits (suc n) i found short =
    eat_fits i pieces.Comma (Many MoreNames) (IsNot pieces.Comma) (λ more. if more then (input.variable >>= (λ x. outputs_from n (found ++ x ∷ []))) else pure found)
    (λ h.
    let b = behind_next i pieces.Comma h in
    let w = ap length b.whole in
    let k = next i in
    let r = (input.variable >>= (λ x. outputs_from n (found ++ x ∷ []))) k in
    many_more (Is pieces.Comma) (IsNot pieces.Comma) MoreNames comma_begins (is_apart pieces.Comma) i r h
    (regroup i (One pieces.Comma) (One pieces.Name) (Many MoreNames) (IsNot pieces.Comma) r
    (next_then i pieces.Comma (One pieces.Name · Many MoreNames) (IsNot pieces.Comma) r h
    (then_fits k (One pieces.Name) (Many MoreNames) Anything (IsNot pieces.Comma) (input.variable k) (λ x. outputs_from n (found ++ x ∷ [])) (any_joins (Many MoreNames) (IsNot pieces.Comma))
    (some_many MoreNames) (variable_fits k)
    (λ x j got. outputs_from_fits n j (found ++ x ∷ []) (let l = no_longer k j (One pieces.Name) Anything (input.variable k) x (variable_fits k) got in omega arith))))))
    (λ absent. many_none (Is pieces.Comma) (IsNot pieces.Comma) MoreNames comma_begins (is_apart pieces.Comma) i (Ok (found, i)) absent (refl, refl))

outputs_fits : (i : Input) → Fits i Names (IsNot pieces.Comma) (outputs i)
unfolding outputs
outputs_fits i = then_fits i (One pieces.Name) (Many MoreNames) Anything (IsNot pieces.Comma) (input.variable i) (λ x j. outputs_from (length j.left) (x ∷ []) j) (any_joins (Many MoreNames) (IsNot pieces.Comma))
    (some_many MoreNames) (variable_fits i) (λ x j got. outputs_from_fits (length j.left) j (x ∷ []) (let l = length-map j.left (λ t. (lexeme_of j.text t).piece) in omega arith))

-- what may follow outputs
abbrev EndsOutputs : Follow
EndsOutputs q = IsNot pieces.Comma q × IsNot pieces.Gives q

gives_begins : Begins (Is pieces.Gives) GivesNames
gives_begins = begins_with pieces.Gives Names

gives_apart : (q : Option Piece) → Is pieces.Gives q → EndsOutputs q → ⊥
gives_apart q h ends = ends.1 h

-- [ gives VAR { , VAR } ]
outputs_if_any_fits : (i : Input) → Fits i (Maybe GivesNames) EndsOutputs (reader.outputs_if_any i)
unfolding reader.outputs_if_any
outputs_if_any_fits i = eat_fits i pieces.Gives (Maybe GivesNames) EndsOutputs (λ found. if found then outputs else pure [])
    (λ h. maybe_some (Is pieces.Gives) EndsOutputs GivesNames gives_begins gives_apart i (outputs (next i)) h
    (next_then i pieces.Gives Names EndsOutputs (outputs (next i)) h
    (follows_less (next i) Names (IsNot pieces.Comma) EndsOutputs (outputs (next i)) (λ q a. a.0) (outputs_fits (next i)))))
    (λ absent. maybe_none (Is pieces.Gives) EndsOutputs GivesNames gives_begins gives_apart {A = List VarId} i (Ok ([], i)) absent (refl, refl))

-- ---- declarations

ends_semicolon : Productive (One pieces.Semicolon)
ends_semicolon = some_one pieces.Semicolon

abbrev UnitDeclared : Shape
UnitDeclared = One pieces.Unit · One pieces.Name · One pieces.Semicolon

unit_declared : (i : Input) → Fits i UnitDeclared Anything (reader.unit i)
unfolding reader.unit with_unit
unit_declared i =
    one_then i pieces.Unit (One pieces.Name · One pieces.Semicolon) Anything (expect pieces.Unit i) _ (some_then (One pieces.Name) (One pieces.Semicolon) (some_one pieces.Name) ends_semicolon) (expect_fits i pieces.Unit)
    (λ x j. one_then j pieces.Name (One pieces.Semicolon) Anything (new_name (declared_as_a.Unit (next_unit j)) j) _ ends_semicolon (new_name_fits j (declared_as_a.Unit (next_unit j)))
    (λ name k. then_keeps k (One pieces.Semicolon) Anything (expect pieces.Semicolon k) _ (expect_fits k pieces.Semicolon) (λ y m. (refl, refl))))

abbrev EventDeclared : Shape
EventDeclared = One pieces.Event · One pieces.Name · Maybe AtUnit · One pieces.Semicolon

semicolon_joins : (F : Follow) → F (Some pieces.Semicolon) → Joins (One pieces.Semicolon) F Anything
semicolon_joins F may us vs One.one follows = may

event_declared : (i : Input) → Fits i EventDeclared Anything (reader.event i)
unfolding reader.event with_event
event_declared i =
    one_then i pieces.Event (One pieces.Name · Maybe AtUnit · One pieces.Semicolon) Anything (expect pieces.Event i) _
    (some_then (One pieces.Name) (Maybe AtUnit · One pieces.Semicolon) (some_one pieces.Name) placed_and_ends) (expect_fits i pieces.Event)
    (λ x j. one_then j pieces.Name (Maybe AtUnit · One pieces.Semicolon) Anything (new_name (declared_as_a.Event (next_event j)) j) _ placed_and_ends (new_name_fits j (declared_as_a.Event (next_event j)))
    (λ name k. then_fits k (Maybe AtUnit) (One pieces.Semicolon) (IsNot pieces.At) Anything (reader.unit_if_any k) _ (semicolon_joins (IsNot pieces.At) (λ h. cc)) ends_semicolon (unit_if_any_fits k)
    (λ u m got. then_keeps m (One pieces.Semicolon) Anything (expect pieces.Semicolon m) _ (expect_fits m pieces.Semicolon) (λ y n. (refl, refl)))))
  where
    placed_and_ends : Productive (Maybe AtUnit · One pieces.Semicolon)
    placed_and_ends = some_then (Maybe AtUnit) (One pieces.Semicolon) (some_maybe AtUnit) ends_semicolon

abbrev ValueEnds : Shape
ValueEnds = One pieces.Equal · Literal · One pieces.Semicolon

abbrev VariableDeclared : Shape
VariableDeclared = One pieces.Var · One pieces.Name · One pieces.Colon · Sort · ValueEnds

literal_and_ends : Productive (Literal · One pieces.Semicolon)
literal_and_ends = some_then Literal (One pieces.Semicolon) some_literal ends_semicolon

value_ends : Productive ValueEnds
value_ends = some_then (One pieces.Equal) (Literal · One pieces.Semicolon) (some_one pieces.Equal) literal_and_ends

sort_and_value : Productive (Sort · ValueEnds)
sort_and_value = some_then Sort ValueEnds some_sort value_ends

colon_and_value : Productive (One pieces.Colon · Sort · ValueEnds)
colon_and_value = some_then (One pieces.Colon) (Sort · ValueEnds) (some_one pieces.Colon) sort_and_value

variable_declared : (i : Input) → Fits i VariableDeclared Anything (reader.variable i)
unfolding reader.variable with_var
variable_declared i =
    one_then i pieces.Var (One pieces.Name · One pieces.Colon · Sort · ValueEnds) Anything (expect pieces.Var i) _
    (some_then (One pieces.Name) (One pieces.Colon · Sort · ValueEnds) (some_one pieces.Name) colon_and_value) (expect_fits i pieces.Var)
    (λ x j. one_then j pieces.Name (One pieces.Colon · Sort · ValueEnds) Anything (new_name (declared_as_a.Var (next_var j)) j) _ colon_and_value (new_name_fits j (declared_as_a.Var (next_var j)))
    (λ name k. one_then k pieces.Colon (Sort · ValueEnds) Anything (expect pieces.Colon k) _ sort_and_value (expect_fits k pieces.Colon)
    (λ y m. then_fits m Sort ValueEnds Anything Anything (sort m) _ (any_joins ValueEnds Anything) value_ends (sort_fits m)
    (λ kind n got. one_then n pieces.Equal (Literal · One pieces.Semicolon) Anything (expect pieces.Equal n) _ literal_and_ends (expect_fits n pieces.Equal)
    (λ z o. then_fits o Literal (One pieces.Semicolon) Anything Anything (literal o) _ (any_joins (One pieces.Semicolon) Anything) ends_semicolon (literal_fits o)
    (λ value l got'. then_keeps l (One pieces.Semicolon) Anything (expect pieces.Semicolon l) _ (expect_fits l pieces.Semicolon) (λ a b. (refl, refl))))))))

abbrev ActivityDeclared : Shape
ActivityDeclared = One pieces.Activity · One pieces.Name · One pieces.At · One pieces.Name · Maybe GivesNames · One pieces.Semicolon

gives_and_ends : Productive (Maybe GivesNames · One pieces.Semicolon)
gives_and_ends = some_then (Maybe GivesNames) (One pieces.Semicolon) (some_maybe GivesNames) ends_semicolon

unit_and_ends : Productive (One pieces.Name · Maybe GivesNames · One pieces.Semicolon)
unit_and_ends = some_then (One pieces.Name) (Maybe GivesNames · One pieces.Semicolon) (some_one pieces.Name) gives_and_ends

at_unit_and_ends : Productive (One pieces.At · One pieces.Name · Maybe GivesNames · One pieces.Semicolon)
at_unit_and_ends = some_then (One pieces.At) (One pieces.Name · Maybe GivesNames · One pieces.Semicolon) (some_one pieces.At) unit_and_ends

activity_declared : (i : Input) → Fits i ActivityDeclared Anything (reader.activity i)
unfolding reader.activity with_act
activity_declared i =
    one_then i pieces.Activity (One pieces.Name · One pieces.At · One pieces.Name · Maybe GivesNames · One pieces.Semicolon) Anything (expect pieces.Activity i) _
    (some_then (One pieces.Name) (One pieces.At · One pieces.Name · Maybe GivesNames · One pieces.Semicolon) (some_one pieces.Name) at_unit_and_ends) (expect_fits i pieces.Activity)
    (λ x j. one_then j pieces.Name (One pieces.At · One pieces.Name · Maybe GivesNames · One pieces.Semicolon) Anything (new_name (declared_as_a.Activity (next_act j)) j) _ at_unit_and_ends
    (new_name_fits j (declared_as_a.Activity (next_act j)))
    (λ name k. one_then k pieces.At (One pieces.Name · Maybe GivesNames · One pieces.Semicolon) Anything (expect pieces.At k) _ unit_and_ends (expect_fits k pieces.At)
    (λ y m. one_then m pieces.Name (Maybe GivesNames · One pieces.Semicolon) Anything (input.unit m) _ gives_and_ends (unit_fits m)
    (λ u n. then_fits n (Maybe GivesNames) (One pieces.Semicolon) EndsOutputs Anything (reader.outputs_if_any n) _ (semicolon_joins EndsOutputs ((λ h. cc), (λ h. cc))) ends_semicolon (outputs_if_any_fits n)
    (λ found l got. then_keeps l (One pieces.Semicolon) Anything (expect pieces.Semicolon l) _ (expect_fits l pieces.Semicolon) (λ a b. (refl, refl)))))))

-- ---- any number of declarations

-- a declaration begins with this
abbrev pub starts_declaration : Option Piece → Bool
starts_declaration (Some pieces.Unit) = true
starts_declaration (Some pieces.Event) = true
starts_declaration (Some pieces.Var) = true
starts_declaration (Some pieces.Activity) = true
starts_declaration _ = false

abbrev pub StartsDeclaration : Follow
StartsDeclaration q = starts_declaration q ≡ true

abbrev pub EndsDeclarations : Follow
EndsDeclarations q = starts_declaration q ≡ false

-- the declarations that begin with this
abbrev DeclarationWith : Piece → Shape
DeclarationWith pieces.Unit = UnitDeclared
DeclarationWith pieces.Event = EventDeclared
DeclarationWith pieces.Var = VariableDeclared
DeclarationWith pieces.Activity = ActivityDeclared
DeclarationWith _ = λ ps. ⊥

declaration_wider : (p : Piece) (us : List Piece) → DeclarationWith p us → Declaration us
declaration_wider pieces.Unit us shaped = Declaration.unit shaped
declaration_wider pieces.Event us shaped = Declaration.event shaped
declaration_wider pieces.Var us shaped = Declaration.variable shaped
declaration_wider pieces.Activity us shaped = Declaration.activity shaped
declaration_wider _ us shaped = absurd shaped

declaration_narrow : (p : Piece) (us vs : List Piece) → Declaration us → first (us ++ vs) ≡ Some p → DeclarationWith p us
declaration_narrow p us vs (Declaration.unit shaped) is =
    let begins = begins_with pieces.Unit (One pieces.Name · One pieces.Semicolon) us vs shaped in
    let same : pieces.Unit ≡ p = cc in subst (λ q. DeclarationWith q us) same shaped
declaration_narrow p us vs (Declaration.event shaped) is =
    let begins = begins_with pieces.Event (One pieces.Name · Maybe AtUnit · One pieces.Semicolon) us vs shaped in
    let same : pieces.Event ≡ p = cc in subst (λ q. DeclarationWith q us) same shaped
declaration_narrow p us vs (Declaration.variable shaped) is =
    let begins = begins_with pieces.Var (One pieces.Name · One pieces.Colon · Sort · ValueEnds) us vs shaped in
    let same : pieces.Var ≡ p = cc in subst (λ q. DeclarationWith q us) same shaped
declaration_narrow p us vs (Declaration.activity shaped) is =
    let begins = begins_with pieces.Activity (One pieces.Name · One pieces.At · One pieces.Name · Maybe GivesNames · One pieces.Semicolon) us vs shaped in
    let same : pieces.Activity ≡ p = cc in subst (λ q. DeclarationWith q us) same shaped

declaration_begins : Begins StartsDeclaration Declaration
declaration_begins us vs (Declaration.unit shaped) =
    subst StartsDeclaration (sym (begins_with pieces.Unit (One pieces.Name · One pieces.Semicolon) us vs shaped)) refl
declaration_begins us vs (Declaration.event shaped) =
    subst StartsDeclaration (sym (begins_with pieces.Event (One pieces.Name · Maybe AtUnit · One pieces.Semicolon) us vs shaped)) refl
declaration_begins us vs (Declaration.variable shaped) =
    subst StartsDeclaration (sym (begins_with pieces.Var (One pieces.Name · One pieces.Colon · Sort · ValueEnds) us vs shaped)) refl
declaration_begins us vs (Declaration.activity shaped) =
    subst StartsDeclaration (sym (begins_with pieces.Activity (One pieces.Name · One pieces.At · One pieces.Name · Maybe GivesNames · One pieces.Semicolon) us vs shaped)) refl

declaration_apart : (q : Option Piece) → StartsDeclaration q → EndsDeclarations q → ⊥
declaration_apart q h ends = cc

-- what is read behind a declaration, if one was found
abbrev more_behind : ℕ → Bool → Parser (Unit {0})
more_behind n found = if found then declarations_from n else pure tt

-- a declaration and more
one_declared : (i : Input) (p : Piece) (n : ℕ) (r : Parser (Unit {0})) → Next p i → starts_declaration (Some p) ≡ true → Fits i (DeclarationWith p) Anything (r i)
    → ((j : Input) → suc (length (pieces_left j)) ≤ length (pieces_left i) → Fits j (Many Declaration) EndsDeclarations (declarations_from n j))
    → Fits i (Many Declaration) EndsDeclarations (and_then ((r >> pure true) i) (more_behind n))
one_declared i p n r h starts fits rest =
    let declared : Fits i Declaration Anything (r i) =
    recast i (DeclarationWith p) Declaration Anything Anything (r i) (record { wider = declaration_wider p; narrow = λ us vs shaped follows is. (declaration_narrow p us vs shaped (is ∙ h), tt) }) fits in
    let both : Fits i (Declaration · Many Declaration) EndsDeclarations (and_then (r i) (λ _. declarations_from n)) =
    then_fits i Declaration (Many Declaration) Anything EndsDeclarations (r i) (λ _. declarations_from n) (any_joins (Many Declaration) EndsDeclarations) (some_many Declaration) declared
    (λ x j got. rest j (shorter StartsDeclaration Anything Declaration declaration_begins (λ h. cc) i j (r i) x declared got)) in
    subst (Fits i (Many Declaration) EndsDeclarations) (sym (then_assoc (r i) (λ _. pure true) (more_behind n)))
    (many_more StartsDeclaration EndsDeclarations Declaration declaration_begins declaration_apart i (and_then (r i) (λ _. declarations_from n)) (subst StartsDeclaration (sym h) starts) both)

no_declaration : (i : Input) (r : Outcome (Unit {0})) → EndsDeclarations (first (pieces_left i)) → Keeps i r → Fits i (Many Declaration) EndsDeclarations r
no_declaration i r ends keeps = many_none StartsDeclaration EndsDeclarations Declaration declaration_begins declaration_apart i r (λ h. cc) keeps

declarations_from_fits : (n : ℕ) (i : Input) → length (pieces_left i) ≤ n → Fits i (Many Declaration) EndsDeclarations (declarations_from n i)
unfolding declarations_from declaration
declarations_from_fits zero i short = no_declaration i (Ok (tt, i)) (ap (λ x. starts_declaration (first x)) (none_left i short)) (refl, refl)
declarations_from_fits (suc n) i short = by_piece (piece i) refl (λ j less. declarations_from_fits n j (omega (arith, less, short)))
  where
    by_piece : (q : Option Piece) → piece i ≡ q
        → ((j : Input) → suc (length (pieces_left j)) ≤ length (pieces_left i) → Fits j (Many Declaration) EndsDeclarations (declarations_from n j))
        → Fits i (Many Declaration) EndsDeclarations (and_then (declaration_by q i) (more_behind n))
    by_piece (Some pieces.Unit) is rest = let h = sym (piece_first i) ∙ is in one_declared i pieces.Unit n reader.unit h refl (unit_declared i) rest
    by_piece (Some pieces.Event) is rest = let h = sym (piece_first i) ∙ is in one_declared i pieces.Event n reader.event h refl (event_declared i) rest
    by_piece (Some pieces.Var) is rest = let h = sym (piece_first i) ∙ is in one_declared i pieces.Var n reader.variable h refl (variable_declared i) rest
    by_piece (Some pieces.Activity) is rest = let h = sym (piece_first i) ∙ is in one_declared i pieces.Activity n reader.activity h refl (activity_declared i) rest
    by_piece q is rest = no_declaration i (Ok (tt, i)) (ap starts_declaration (sym (piece_first i) ∙ is)) (refl, refl)

pub declarations_fits : (i : Input) → Fits i (Many Declaration) EndsDeclarations (declarations i)
unfolding declarations
declarations_fits i = declarations_from_fits (length i.left) i (let l = length-map i.left (λ t. (lexeme_of i.text t).piece) in omega arith)

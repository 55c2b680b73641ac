-- The words that lines are made of.
use Rattle.std.specs.Prelude.{ℕ, suc, ◌++◌, Bool, List, [], ◌∷◌, flat_map, if◌then◌else◌, pos, negsuc}
use Rattle.std.specs.Fmt.{decimal}
use lib.Chars.{codes}
use Rattle.wf_model.specs.declared.value.Sort.{Sort}
use Rattle.wf_model.specs.declared.value.Sort.TheVariants as sorts
use Rattle.wf_model.specs.declared.value.Val.{Val}
use Rattle.wf_model.specs.declared.value.Val.TheVariants as v
use Rattle.wf_model.specs.declared.chart.Kind.{Kind}
use Rattle.wf_model.specs.declared.chart.Kind.TheVariants as kinds
use Rattle.wf_model.specs.declared.expr.Op.{Op}
use Rattle.wf_model.specs.declared.expr.Op.TheVariants as o

abbrev pub truth_word : Bool → List ℕ
truth_word b = if b then codes "true" else codes "false"

-- text characters between quotes
abbrev pub quoted : List ℕ → List ℕ
quoted chars = codes "\"" ++ chars ++ codes "\""

abbrev pub sort_word : Sort → List ℕ
sort_word sorts.Bool = codes "bool"
sort_word sorts.Int = codes "int"
sort_word sorts.Text = codes "text"

abbrev pub kind_word : Kind → List ℕ
kind_word kinds.Basic = codes "basic "
kind_word kinds.Or = codes "or "
kind_word kinds.And = codes "and "

-- the operator between its sides, a space on each side
abbrev pub op_word : Op → List ℕ
op_word o.Or = codes " or "
op_word o.And = codes " and "
op_word o.Eq = codes " = "
op_word o.Ne = codes " != "
op_word o.Lt = codes " < "
op_word o.Le = codes " <= "
op_word o.Gt = codes " > "
op_word o.Ge = codes " >= "
op_word o.Add = codes " + "
op_word o.Sub = codes " - "
op_word o.Mul = codes " * "
op_word o.Div = codes " / "
op_word o.Rem = codes " % "

-- the literal of a value; a number below 0 has its sign as a token of its own
abbrev pub literal : Val → List ℕ
literal (v.Bool b) = truth_word b
literal (v.Int (pos n)) = decimal n
literal (v.Int (negsuc n)) = codes "- " ++ decimal (suc n)
literal (v.Text t) = quoted t

-- what f makes of each, a comma before each
abbrev pub behind_commas : {A : Type 0} → (A → List ℕ) → List A → List ℕ
behind_commas f xs = flat_map (λ x. codes ", " ++ f x) xs

-- what f makes of each, with commas between them, behind the opening word; nothing where there is none
abbrev pub listed : {A : Type 0} → List ℕ → (A → List ℕ) → List A → List ℕ
listed opening f [] = []
listed opening f (x ∷ xs) = opening ++ f x ++ behind_commas f xs

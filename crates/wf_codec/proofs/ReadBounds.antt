-- Reading leaves no more bytes than there are, and a bad field begins at one of them.
use Rattle.std.proofs.Common.{◌≡◌, ℕ, zero, suc, ◌≤◌, Bool, true, false, cond, ltb, eqb, List, [], ◌∷◌, length, take, drop, Option, Some, None, Result, Ok, Err, subst, arith, length-drop}
use Rattle.std.specs.Int.{Width, w64, byte_len, from_be_bytes}
use Rattle.wf_model.specs.Txt.{is_text_char}
use Rattle.wf_model.specs.declared.ids.StateId.{StateId}
use Rattle.wf_model.specs.declared.ids.EventId.{EventId}
use Rattle.wf_model.specs.declared.ids.TransId.{TransId}
use Rattle.wf_model.specs.declared.outer.Output.{Output}
use Rattle.wf_model.specs.declared.outer.Outer.{Outer}
use Rattle.wf_model.specs.declared.update.Write.{Write}
use Rattle.wf_model.specs.declared.update.StartAt.{StartAt}
use Rattle.wf_model.specs.declared.update.Update.{Update}
use Rattle.wf_codec.specs.declared.fault.Misfit.{Misfit}
use Rattle.wf_codec.specs.declared.fault.Misfit.TheVariants.{Short, Bad}
use Rattle.wf_codec.specs.declared.field.Numbers.{Numbers}
use Rattle.wf_codec.specs.Tags.{bool_sort, int_sort}
use Rattle.wf_model.specs.Steps.{◌>>=◌}
use Rattle.wf_codec.specs.Reading.{byte_that, byte_in, number_in, eight_at, ranged, is_within, items_at}
use Rattle.wf_codec.specs.Fields.{bool_at, int_at, text_at, value_at, state_at, event_at, trans_at, write_at, start_at, output_at, happening_at, completion_at, outer_at, list_at, update_at}
use Rattle.wf_codec.proofs.ReadLoop.{Reads}

-- no more than so many bytes are left
abbrev pub Leaves : {A : Type 0} → ℕ → Result (A × List ℕ) Misfit → Type 0
Leaves n (Ok x) = length x.1 ≤ n
Leaves n (Err Short) = Unit {0}
Leaves n (Err (Bad left)) = left ≤ n

Leaves-less : {A : Type 0} (m n : ℕ) (r : Result (A × List ℕ) Misfit) → m ≤ n → Leaves m r → Leaves n r
Leaves-less m n (Ok x) le h = omega arith
Leaves-less m n (Err Short) le h = tt
Leaves-less m n (Err (Bad left)) le h = omega arith

-- one field after the other
Leaves-then : {A B : Type 0} (n : ℕ) (r : Result (A × List ℕ) Misfit) (f : A × List ℕ → Result (B × List ℕ) Misfit)
    → Leaves n r → ((x : A × List ℕ) → Leaves (length x.1) (f x)) → Leaves n (r >>= f)
Leaves-then n (Ok x) f h next = Leaves-less (length x.1) n (f x) h (next x)
Leaves-then n (Err Short) f h next = tt
Leaves-then n (Err (Bad left)) f h next = h

Leaves-if : {A : Type 0} (n : ℕ) (b : Bool) (r s : Result (A × List ℕ) Misfit) → Leaves n r → Leaves n s → Leaves n (cond b r s)
Leaves-if n true r s hr hs = hr
Leaves-if n false r s hr hs = hs

that_leaves : (test : ℕ → Bool) (bytes : List ℕ) → Leaves (length bytes) (byte_that test bytes)
unfolding byte_that
that_leaves test [] = tt
that_leaves test (b ∷ rest) = Leaves-if (suc (length rest)) (test b) (Ok (b, rest)) (Err (Bad (suc (length rest)))) (omega arith) (omega arith)

byte_leaves : (least limit : ℕ) (bytes : List ℕ) → Leaves (length bytes) (byte_in least limit bytes)
unfolding byte_in
byte_leaves least limit bytes = that_leaves (is_within least limit) bytes

number_leaves : (w : Width) (least limit : ℕ) (bytes : List ℕ) → Leaves (length bytes) (number_in w least limit bytes)
unfolding number_in
number_leaves w least limit bytes =
    let n = from_be_bytes w (take (byte_len w) bytes) in
    let rest = drop (byte_len w) bytes in
    let less : length rest ≤ length bytes = omega (arith, length-drop (byte_len w) bytes) in
    Leaves-if (length bytes) (ltb (length bytes) (byte_len w)) (Err Short) (ranged least limit bytes n rest) tt
    (Leaves-if (length bytes) (is_within least limit n) (Ok (n, rest)) (Err (Bad (length bytes))) less (omega arith))

eight_leaves : (bytes : List ℕ) → Leaves (length bytes) (eight_at bytes)
unfolding eight_at
eight_leaves bytes =
    let rest = drop (byte_len w64) bytes in
    let less : length rest ≤ length bytes = omega (arith, length-drop (byte_len w64) bytes) in
    Leaves-if (length bytes) (ltb (length bytes) (byte_len w64)) (Err Short) (Ok (from_be_bytes w64 (take (byte_len w64) bytes), rest)) tt less

items_leave : {A : Type 0} (item : Reads A) (count : ℕ) (before : Option A) (bytes : List ℕ)
    → ((other : Option A) (more : List ℕ) → Leaves (length more) (item other more)) → Leaves (length bytes) (items_at item count before bytes)
unfolding items_at
items_leave item zero before bytes each = omega arith
items_leave item (suc n) before bytes each =
    Leaves-then _ _ _ (each before bytes) (λ first. Leaves-then _ _ _ (items_leave item n (Some first.0) first.1 each) (λ others. omega arith))

list_leaves : {A : Type 0} (item : Reads A) (bound : ℕ) (bytes : List ℕ)
    → ((other : Option A) (more : List ℕ) → Leaves (length more) (item other more)) → Leaves (length bytes) (list_at item bound bytes)
unfolding list_at
list_leaves item bound bytes each = Leaves-then _ _ _ (number_leaves _ _ _ bytes) (λ count. items_leave item count.0 None count.1 each)

-- ---- values

bool_leaves : (bytes : List ℕ) → Leaves (length bytes) (bool_at bytes)
unfolding bool_at
bool_leaves bytes = Leaves-then _ _ _ (byte_leaves _ _ bytes) (λ b. omega arith)

int_leaves : (bytes : List ℕ) → Leaves (length bytes) (int_at bytes)
unfolding int_at
int_leaves bytes = Leaves-then _ _ _ (eight_leaves bytes) (λ n. omega arith)

text_leaves : (bytes : List ℕ) → Leaves (length bytes) (text_at bytes)
unfolding text_at
text_leaves bytes =
    Leaves-then _ _ _ (byte_leaves _ _ bytes) (λ len.
    Leaves-then _ _ _ (items_leave (λ before. byte_that is_text_char) len.0 None len.1 (λ before more. that_leaves is_text_char more)) (λ cs. omega arith))

value_leaves : (bytes : List ℕ) → Leaves (length bytes) (value_at bytes)
unfolding value_at
value_leaves bytes =
    Leaves-then _ _ _ (byte_leaves _ _ bytes) (λ sort. Leaves-if _ (eqb sort.0 bool_sort) _ _ (bool_leaves sort.1) (Leaves-if _ (eqb sort.0 int_sort) _ _ (int_leaves sort.1) (text_leaves sort.1)))

-- ---- entries

state_leaves : (before : Option StateId) (bytes : List ℕ) → Leaves (length bytes) (state_at before bytes)
unfolding state_at
state_leaves before bytes = Leaves-then _ _ _ (number_leaves _ _ _ bytes) (λ n. omega arith)

event_leaves : (numbers : Numbers) (before : Option EventId) (bytes : List ℕ) → Leaves (length bytes) (event_at numbers before bytes)
unfolding event_at
event_leaves numbers before bytes = Leaves-then _ _ _ (number_leaves _ _ _ bytes) (λ n. omega arith)

trans_leaves : (before : Option TransId) (bytes : List ℕ) → Leaves (length bytes) (trans_at before bytes)
unfolding trans_at
trans_leaves before bytes = Leaves-then _ _ _ (number_leaves _ _ _ bytes) (λ n. omega arith)

write_leaves : (numbers : Numbers) (before : Option Write) (bytes : List ℕ) → Leaves (length bytes) (write_at numbers before bytes)
unfolding write_at
write_leaves numbers before bytes =
    Leaves-then _ _ _ (number_leaves _ _ _ bytes) (λ var.
    Leaves-then _ _ _ (number_leaves _ _ _ var.1) (λ trans.
    Leaves-then _ _ _ (value_leaves trans.1) (λ val. omega arith)))

start_leaves : (numbers : Numbers) (before : Option StartAt) (bytes : List ℕ) → Leaves (length bytes) (start_at numbers before bytes)
unfolding start_at
start_leaves numbers before bytes =
    Leaves-then _ _ _ (number_leaves _ _ _ bytes) (λ act.
    Leaves-then _ _ _ (number_leaves _ _ _ act.1) (λ trans.
    Leaves-then _ _ _ (byte_leaves _ _ trans.1) (λ place. omega arith)))

output_leaves : (numbers : Numbers) (before : Option Output) (bytes : List ℕ) → Leaves (length bytes) (output_at numbers before bytes)
unfolding output_at
output_leaves numbers before bytes =
    Leaves-then _ _ _ (number_leaves _ _ _ bytes) (λ var. Leaves-then _ _ _ (value_leaves var.1) (λ val. omega arith))

happening_leaves : (numbers : Numbers) (bytes : List ℕ) → Leaves (length bytes) (happening_at numbers bytes)
unfolding happening_at
happening_leaves numbers bytes = Leaves-then _ _ _ (number_leaves _ _ _ bytes) (λ event. omega arith)

completion_leaves : (numbers : Numbers) (bytes : List ℕ) → Leaves (length bytes) (completion_at numbers bytes)
unfolding completion_at
completion_leaves numbers bytes =
    Leaves-then _ _ _ (number_leaves _ _ _ bytes) (λ item.
    Leaves-then _ _ _ (number_leaves _ _ _ item.1) (λ act.
    Leaves-then _ _ _ (byte_leaves _ _ act.1) (λ count.
    Leaves-then _ _ _ (items_leave (output_at numbers) count.0 None count.1 (output_leaves numbers)) (λ outputs. omega arith))))

outer_leaves : (numbers : Numbers) (before : Option Outer) (bytes : List ℕ) → Leaves (length bytes) (outer_at numbers before bytes)
unfolding outer_at
outer_leaves numbers before bytes =
    Leaves-then _ _ _ (byte_leaves _ _ bytes) (λ kind. Leaves-if _ _ _ _ (happening_leaves numbers kind.1) (completion_leaves numbers kind.1))

-- ---- updates

pub update_leaves : (numbers : Numbers) (before : Option Update) (bytes : List ℕ) → Leaves (length bytes) (update_at numbers before bytes)
unfolding update_at
update_leaves numbers before bytes =
    Leaves-then _ _ _ (byte_leaves _ _ bytes) (λ tag.
    Leaves-then _ _ _ (byte_leaves _ _ tag.1) (λ from.
    Leaves-then _ _ _ (number_leaves _ _ _ from.1) (λ step.
    Leaves-then _ _ _ (list_leaves state_at _ step.1 state_leaves) (λ flips.
    Leaves-then _ _ _ (list_leaves (write_at numbers) _ flips.1 (write_leaves numbers)) (λ writes.
    Leaves-then _ _ _ (list_leaves (event_at numbers) _ writes.1 (event_leaves numbers)) (λ raised.
    Leaves-then _ _ _ (list_leaves (start_at numbers) _ raised.1 (start_leaves numbers)) (λ starts.
    Leaves-then _ _ _ (list_leaves trans_at _ starts.1 trans_leaves) (λ fired.
    Leaves-then _ _ _ (list_leaves (outer_at numbers) _ fired.1 (outer_leaves numbers)) (λ outer. omega arith)))))))))

pub rest_is_within : {A : Type 0} (n : ℕ) (r : Result (A × List ℕ) Misfit) (x : A) (rest : List ℕ) → Leaves n r → r ≡ Ok (x, rest) → length rest ≤ n
rest_is_within {A} n r x rest h e = subst (λ (z : Result (A × List ℕ) Misfit). Leaves n z) e h

pub bad_is_within : {A : Type 0} (n : ℕ) (r : Result (A × List ℕ) Misfit) (left : ℕ) → Leaves n r → r ≡ Err (Bad left) → left ≤ n
bad_is_within {A} n r left h e = subst (λ (z : Result (A × List ℕ) Misfit). Leaves n z) e h

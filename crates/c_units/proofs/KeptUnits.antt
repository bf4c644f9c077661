-- What holds of all tokens and of all that may be added holds of a unit that declares each object once.
use Rattle.std.proofs.Common.{◌≡◌, ℕ, Bool, true, false, cond, List, [], ◌∷◌, ◌++◌, Option, Some}
use Rattle.std.specs.Prelude.{None, not, ◌&&◌, nat_eq}
use Rattle.c_tree.specs.declared.Form.TheVariants as form
use Rattle.c_tree.specs.declared.Key.TheVariants as key
use Rattle.c_tree.specs.declared.Mark.TheVariants as mark
use Rattle.c_lex.specs.Lexes.{Tokens}
use Rattle.c_library.specs.Places.{tokens}
use Rattle.c_library.proofs.Holds.{Fact, EachToken, Allows, each_append}
use Rattle.c_locals.specs.Elements.{marked}
use Rattle.c_locals.proofs.KeptElements.{EachPiece, marked_keeps}
use Rattle.c_units.specs.declared.joined.Told.{Told}
use Rattle.c_units.specs.declared.objects.Declaration.{Declaration}
use Rattle.c_units.specs.Completed.{is_open, is_completed, whole_head, completed, completed_from}
use Rattle.c_units.specs.Cuts.{items}
use Rattle.c_units.specs.Joined.{count, value_of, is_made, extern_at, extern_of, whole, counts, single}
use Rattle.c_units.specs.Joined.{one_told, each_told}
use Rattle.c_units.specs.Joined.{are_alone, kept, item_told, items_told, all_from, all_completed, beginning, joined}
use Rattle.c_units.specs.Objects.{has_value, read}
use Rattle.c_units.specs.Same.{same_tokens}
use Rattle.c_units.proofs.KeptObjects.{EachPartOf, EachDeclared, declared_append, either, items_keep, read_keeps}

-- ONE DECLARATION

value_of_keeps : (P : Fact) (ds : List Declaration) (h : Tokens) → EachDeclared P ds → EachToken P (value_of ds h)
value_of_keeps P [] h k = tt
value_of_keeps P (d ∷ ds) h k =
    either P (same_tokens d.head h && has_value d) d.value (value_of ds h) k.0.value (value_of_keeps P ds h k.1)

extern_at_keeps : (P : Fact) (e : Option ℕ) → Allows P → EachToken P (extern_at e)
extern_at_keeps P None a = tt
extern_at_keeps P (Some at) a = (a.key key.Extern, tt)

extern_keeps : (P : Fact) (all : List Declaration) (d : Declaration) → Allows P → EachToken P (extern_of all d)
extern_keeps P all d a =
    either P (is_made all d.head) [] (extern_at d.external) tt (extern_at_keeps P d.external a)

whole_keeps : (P : Fact) (all : List Declaration) (d : Declaration) (value : Tokens) → Allows P → EachPartOf P d
    → EachToken P value → EachToken P (whole all d value)
whole_keeps P all d value a h k =
    each_append P (extern_of all d) (d.head ++ (value ++ marked d.at mark.Semicolon)) (extern_keeps P all d a)
    (each_append P d.head (value ++ marked d.at mark.Semicolon) h.head
    (each_append P value (marked d.at mark.Semicolon) k (marked_keeps P d.at mark.Semicolon a)))

single_keeps : (P : Fact) (before all : List Declaration) (d : Declaration) → Allows P → EachDeclared P all
    → EachPartOf P d → EachToken P (single before all d)
single_keeps P before all d a h k =
    either P (nat_eq (count before d.head) 0) (whole all d (value_of all d.head))
    (cond (counts before d) (whole all d d.value) [])
    (whole_keeps P all d (value_of all d.head) a k (value_of_keeps P all d.head h))
    (either P (counts before d) (whole all d d.value) [] (whole_keeps P all d d.value a k k.value) tt)

-- SIZES THAT ARE LEFT OUT

head_keeps : (P : Fact) (ds : List Declaration) (h : Tokens) → EachDeclared P ds → EachToken P h
    → EachToken P (whole_head ds h)
head_keeps P [] h k m = m
head_keeps P (d ∷ ds) h k m =
    either P (is_completed h d.head) d.head (whole_head ds h) k.0.head (head_keeps P ds h k.1 m)

either_one : (P : Fact) (b : Bool) (x y : Declaration) → EachPartOf P x → EachPartOf P y → EachPartOf P (cond b x y)
either_one P true x y h k = h
either_one P false x y h k = k

completed_keeps : (P : Fact) (all : List Declaration) (d : Declaration) → EachDeclared P all → EachPartOf P d
    → EachPartOf P (completed all d)
completed_keeps P all d h k =
    either_one P (is_open d.head && not (has_value d)) (record d { head = whole_head all d.head }) d
    (record { head = head_keeps P all d.head h k.head; value = k.value }) k

each_completed : (P : Fact) (all got ds : List Declaration) → EachDeclared P all → EachDeclared P got
    → EachDeclared P ds → EachDeclared P (completed_from all got ds)
each_completed P all got [] a h k = h
each_completed P all got (d ∷ ds) a h k =
    each_completed P all (got ++ completed all d ∷ []) ds a
    (declared_append P got (completed all d ∷ []) h (completed_keeps P all d a k.0, tt)) k.1

-- THE UNIT

each_told_keeps : (P : Fact) (all ds : List Declaration) (s : Told) → Allows P → EachDeclared P all
    → EachDeclared P ds → EachToken P s.out → EachToken P (each_told all ds s).out
each_told_keeps P all [] s a h k m = m
each_told_keeps P all (d ∷ ds) s a h k m =
    each_told_keeps P all ds (one_told all d s) a h k.1
    (each_append P s.out (single s.before all d) m (single_keeps P s.before all d a h k.0))

by_item : (P : Fact) (b : Bool) (x y : Told) → EachToken P x.out → EachToken P y.out → EachToken P (cond b x y).out
by_item P true x y h k = h
by_item P false x y h k = k

item_told_keeps : (P : Fact) (all : List Declaration) (item : Tokens) (ds : List Declaration) (s : Told) → Allows P
    → EachDeclared P all → EachToken P item → EachDeclared P ds → EachToken P s.out
    → EachToken P (item_told all item ds s).out
item_told_keeps P all item ds s a h i k m =
    by_item P (are_alone all ds) (kept item ds s) (each_told all ds s) (each_append P s.out item m i)
    (each_told_keeps P all ds s a h k m)

items_told_keep : (P : Fact) (all : List Declaration) (is : List Tokens) (s : Told) → Allows P → EachDeclared P all
    → EachPiece P is → EachToken P s.out → EachToken P (items_told all is s).out
items_told_keep P all [] s a h k m = m
items_told_keep P all (i ∷ is) s a h k m =
    let ds : List Declaration = completed_from all [] (read i) in
    items_told_keep P all is (item_told all i ds s) a h k.1
    (item_told_keeps P all i ds s a h k.0 (each_completed P all [] (read i) h tt (read_keeps P i a k.0)) m)

all_keep : (P : Fact) (got : List Declaration) (is : List Tokens) → Allows P → EachDeclared P got → EachPiece P is
    → EachDeclared P (all_from got is)
all_keep P got [] a h k = h
all_keep P got (i ∷ is) a h k =
    all_keep P (got ++ read i) is a (declared_append P got (read i) h (read_keeps P i a k.0)) k.1

-- the unit that declares each object once
pub joined_keeps : (P : Fact) (ts : Tokens) → Allows P → EachToken P ts → EachToken P (joined ts)
joined_keeps P ts a h =
    let pieces : EachPiece P (items ts) = items_keep P ts h in
    let raw : List Declaration = all_from [] (items ts) in
    let all : EachDeclared P raw = all_keep P [] (items ts) a tt pieces in
    items_told_keep P (all_completed (items ts)) (items ts) beginning a (each_completed P raw [] raw all tt all)
    pieces tt

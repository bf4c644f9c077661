-- Targets are read from their texts, and what is read as a target is the text of one.
use Rattle.std.proofs.Common.{◌≡◌, ℕ, List, ◌∷◌, ◌++◌, refl, ap, ◌∙◌}
use Rattle.std.proofs.Common.{Option, Some, None}
use Rattle.std.specs.Prelude.{ℤ, codes}
use Rattle.target_asm_spec.specs.declared.spelled.SpelledTarget.{SpelledTarget}
use Rattle.target_asm_spec.specs.declared.spelled.SpelledTarget.TheVariants as spelled
use Rattle.target_asm_spec.specs.inside.Reading.{or_else, after_in, digits_in, number_in, index_in}
use Rattle.target_asm_spec.specs.inside.Places.{left_in, right_in, pred_in, place_in, slot_in, write_in}
use Rattle.target_asm_spec.specs.inside.Places.{target_by, target_in, next_by, next_in}
use Rattle.target_asm_spec.specs.Lines.{number_text, target_words, maybe_words}
use Rattle.target_asm_spec.proofs.Numbers.{after_front, no_digit}
use Rattle.target_asm_spec.proofs.Targets.{IsEnd, none_again}
use Rattle.target_asm_laws.proofs.Binds.{If, bind, either}
use Rattle.target_asm_laws.proofs.Digits.{IsAfter, after_is}
use Rattle.target_asm_laws.proofs.Numerals.{capped_z, number_read, index_read, IsNumberOf}
use Rattle.target_asm_laws.proofs.Numerals.{number_of_text, IsIndexOf, index_of}

-- a target as it is read
abbrev pub capped_target : SpelledTarget → SpelledTarget
capped_target (spelled.Write n) = spelled.Write (capped_z n)
capped_target (spelled.Left n) = spelled.Left (capped_z n)
capped_target (spelled.Right n) = spelled.Right (capped_z n)
capped_target (spelled.Pred n) = spelled.Pred (capped_z n)

-- a target with its number capped, if there is one
abbrev pub capped_maybe : Option SpelledTarget → Option SpelledTarget
capped_maybe None = None
capped_maybe (Some t) = Some (capped_target t)

-- ---- targets are read

left_place : (n : ℤ) (rest : List ℕ) → place_in n (codes ",0]" ++ rest) ≡ Some (spelled.Left n, rest)
unfolding place_in after_in
left_place n rest = refl

right_place : (n : ℤ) (rest : List ℕ) → place_in n (codes ",1]" ++ rest) ≡ Some (spelled.Right n, rest)
unfolding place_in after_in
right_place n rest = refl

pred_place : (n : ℤ) (rest : List ℕ) → place_in n (codes ",p]" ++ rest) ≡ Some (spelled.Pred n, rest)
unfolding place_in after_in
pred_place n rest = refl

slot_read : (n : ℤ) (t : SpelledTarget) (end rest : List ℕ) → digits_in (end ++ rest) ≡ 0
    → place_in (capped_z n) (end ++ rest) ≡ Some (t, rest)
    → target_in (codes "N[" ++ (number_text n ++ (end ++ rest))) ≡ Some (t, rest)
unfolding target_in slot_in
slot_read n t end rest z p =
    let inner : List ℕ = number_text n ++ (end ++ rest) in
    let a : after_in (codes "N[") (codes "N[" ++ inner) ≡ Some inner = after_front (codes "N[") inner in
    let b : number_in inner ≡ Some (capped_z n, end ++ rest) = number_read n (end ++ rest) z in
    rw (a, b) p

no_slot : (t : List ℕ) → after_in (codes "N[") (codes "W[" ++ t) ≡ None
unfolding after_in
no_slot t = refl

write_read : (n : ℤ) (rest : List ℕ)
    → target_in (codes "W[" ++ (number_text n ++ 93 ∷ rest)) ≡ Some (spelled.Write (capped_z n), rest)
unfolding target_in write_in
write_read n rest =
    let t : List ℕ = number_text n ++ 93 ∷ rest in
    let a : after_in (codes "N[") (codes "W[" ++ t) ≡ None = no_slot t in
    let b : index_in (codes "W[") (codes "W[" ++ t) ≡ Some (capped_z n, rest) =
    index_read (codes "W[") n rest in
    rw (a, b) refl

-- the words of a target are read as this target, its number kept up to what lies past every field
pub target_read : (t : SpelledTarget) (rest : List ℕ)
    → target_in (target_words t rest) ≡ Some (capped_target t, rest)
unfolding target_words
target_read (spelled.Left n) rest =
    slot_read n (spelled.Left (capped_z n)) (codes ",0]") rest (no_digit 44 _ refl)
    (left_place (capped_z n) rest)
target_read (spelled.Right n) rest =
    slot_read n (spelled.Right (capped_z n)) (codes ",1]") rest (no_digit 44 _ refl)
    (right_place (capped_z n) rest)
target_read (spelled.Pred n) rest =
    slot_read n (spelled.Pred (capped_z n)) (codes ",p]") rest (no_digit 44 _ refl)
    (pred_place (capped_z n) rest)
target_read (spelled.Write n) rest = write_read n rest

-- a target behind a space is read
pub some_read : (t : SpelledTarget) (rest : List ℕ)
    → next_in (32 ∷ target_words t rest) ≡ Some (Some (capped_target t), rest)
unfolding next_in
some_read t rest =
    let a : after_in (codes " ") (32 ∷ target_words t rest) ≡ Some (target_words t rest) =
    after_front (codes " ") (target_words t rest) in
    rw (a, target_read t rest) refl

-- a target that is there or is not is read where no other follows
pub next_read : (t : Option SpelledTarget) (rest : List ℕ) → IsEnd rest
    → next_in (maybe_words t rest) ≡ Some (capped_maybe t, rest)
unfolding maybe_words
next_read None rest e = none_again rest e
next_read (Some t) rest e = some_read t rest

-- ---- what is read as a target is the text of one

-- a text that is read as a target is the words of one
pub record IsTargetOf (text : List ℕ) (r : SpelledTarget × List ℕ) : Type 0 where
  pub t : SpelledTarget
  pub same : capped_target t ≡ r.0
  pub is : text ≡ target_words t r.1

place_of : (n z : ℤ) (text inner : List ℕ) → capped_z n ≡ z
    → text ≡ codes "N[" ++ (number_text n ++ inner) → If (IsTargetOf text) (place_in z inner)
unfolding place_in target_words
place_of n z text inner s h =
    either (IsTargetOf text) (left_in z inner) (or_else (right_in z inner) (pred_in z inner))
    (bind (IsAfter (codes ",0]") inner) (IsTargetOf text) (after_in (codes ",0]") inner) _
    (after_is (codes ",0]") inner)
    (λ rest a. record {
      t = spelled.Left n;
      same = ap spelled.Left s;
      is = h ∙ ap (λ (x : List ℕ). codes "N[" ++ (number_text n ++ x)) a;
    }))
    (either (IsTargetOf text) (right_in z inner) (pred_in z inner)
    (bind (IsAfter (codes ",1]") inner) (IsTargetOf text) (after_in (codes ",1]") inner) _
    (after_is (codes ",1]") inner)
    (λ rest a. record {
      t = spelled.Right n;
      same = ap spelled.Right s;
      is = h ∙ ap (λ (x : List ℕ). codes "N[" ++ (number_text n ++ x)) a;
    }))
    (bind (IsAfter (codes ",p]") inner) (IsTargetOf text) (after_in (codes ",p]") inner) _
    (after_is (codes ",p]") inner)
    (λ rest a. record {
      t = spelled.Pred n;
      same = ap spelled.Pred s;
      is = h ∙ ap (λ (x : List ℕ). codes "N[" ++ (number_text n ++ x)) a;
    })))

slot_of : (text inner : List ℕ) → text ≡ codes "N[" ++ inner → If (IsTargetOf text) (slot_in inner)
unfolding slot_in
slot_of text inner e =
    bind (IsNumberOf inner) (IsTargetOf text) (number_in inner) _ (number_of_text inner) (λ n h.
    place_of h.z n.0 text n.1 h.same (e ∙ ap (λ (x : List ℕ). codes "N[" ++ x) h.is))

write_of : (text : List ℕ) → If (IsTargetOf text) (write_in text)
unfolding write_in target_words
write_of text =
    bind (IsIndexOf (codes "W[") text) (IsTargetOf text) (index_in (codes "W[") text) _
    (index_of (codes "W[") text) (λ n h. record {
      t = spelled.Write h.z;
      same = ap spelled.Write h.same;
      is = h.is;
    })

target_by_of : (text : List ℕ) (o : Option (List ℕ)) → If (IsAfter (codes "N[") text) o
    → If (IsTargetOf text) (target_by o text)
target_by_of text None h = write_of text
target_by_of text (Some inner) h = slot_of text inner h

-- what is read as a target is its text
pub target_of : (text : List ℕ) → If (IsTargetOf text) (target_in text)
unfolding target_in
target_of text = target_by_of text (after_in (codes "N[") text) (after_is (codes "N[") text)

-- a text that is read as a target that may be there is the words of one, or none stands there
pub record IsNextOf (text : List ℕ) (r : Option SpelledTarget × List ℕ) : Type 0 where
  pub t : Option SpelledTarget
  pub same : capped_maybe t ≡ r.0
  pub is : text ≡ maybe_words t r.1
  pub ends : t ≡ None → after_in (codes " ") r.1 ≡ None
  pub none : after_in (codes " ") text ≡ None → t ≡ None

next_by_of : (text : List ℕ) (o : Option (List ℕ)) → after_in (codes " ") text ≡ o
    → If (IsAfter (codes " ") text) o → If (IsNextOf text) (next_by o text)
unfolding maybe_words
next_by_of text None e h =
    record { t = None; same = refl; is = refl; ends = λ n. e; none = λ n. refl }
next_by_of text (Some rest) e h =
    bind (IsTargetOf rest) (IsNextOf text) (target_in rest) (λ t. Some (Some t.0, t.1))
    (target_of rest) (λ r p. record {
      t = Some p.t;
      same = ap (λ (x : SpelledTarget). Some x) p.same;
      is = h ∙ ap (λ (x : List ℕ). 32 ∷ x) p.is;
      ends = λ n. absurd cc;
      none = λ n. absurd cc;
    })

-- what is read as a target that may be there is its text
pub next_of : (text : List ℕ) → If (IsNextOf text) (next_in text)
unfolding next_in
next_of text = next_by_of text (after_in (codes " ") text) refl (after_is (codes " ") text)

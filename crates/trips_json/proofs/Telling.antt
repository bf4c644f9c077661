-- The output of a report and the line of its end are found by the output's length.
use Rattle.std.proofs.Common.{◌≡◌, ◌∙◌, ℕ, suc, ◌+◌, ◌-◌, ◌*◌, ◌<◌, ◌^◌, ◌%◌, List, [], ◌∷◌, ◌++◌}
use Rattle.std.proofs.Common.{length, take, drop, refl, ap, subst, arith, Bool, true, false}
use Rattle.std.proofs.Common.{append_assoc, codes, decimal, Some, None}
use Rattle.std.proofs.lemmas.Bool.{eqb-true}
use Rattle.std.proofs.lemmas.Bool.Decides.{nat_tests}
use Rattle.std.proofs.lemmas.Fmt.{decimal_by_steps}
use Rattle.std.specs.Prelude.{◌==◌, ◌&&◌, not, nat_lt, nat_le, if◌then◌else◌, option_and_then, slice_index}
use Rattle.std.specs.List.{list_all}
use Rattle.trips_requests.specs.declared.status.Status.{Status}
use Rattle.trips_requests.specs.Limits.{is_digit, most_seed, number_within, value_from}
use Rattle.trips_requests.specs.Texts.{output_and}
use Rattle.trips_json.specs.Lines.{behind_line, ended_at, first_line, is_one_line, line_size, output_size, size_told}
use Rattle.trips_json.specs.Objects.{answered, ended, json_text, shown, told, told_in_parts}
use Rattle.trips_json.specs.Strings.{string_of}

-- LISTS

front_is : (xs ys : List ℕ) → take (length xs) (xs ++ ys) ≡ xs
front_is [] ys = take_none ys
  where
    take_none : (ys : List ℕ) → take 0 ys ≡ []
    take_none [] = refl
    take_none (y ∷ ys) = refl
front_is (x ∷ xs) ys = ap (λ t. x ∷ t) (front_is xs ys)

back_is : (xs : List ℕ) (y : ℕ) (ys : List ℕ) → drop (suc (length xs)) (xs ++ y ∷ ys) ≡ ys
back_is [] y ys = drop_none ys
  where
    drop_none : (ys : List ℕ) → drop 0 ys ≡ ys
    drop_none [] = refl
    drop_none (y ∷ ys) = refl
back_is (x ∷ xs) y ys = back_is xs y ys

lower_is : (xs : List ℕ) (y : ℕ) (ys : List ℕ) → nat_lt (length xs) (length (xs ++ y ∷ ys)) ≡ true
lower_is xs y ys = let l = shorter xs y ys in grind (arith, nat_tests)
  where
    shorter : (xs : List ℕ) (y : ℕ) (ys : List ℕ) → length xs < length (xs ++ y ∷ ys)
    shorter [] y ys = omega arith
    shorter (x ∷ xs) y ys = let more = shorter xs y ys in omega (arith, more)

item_is : (xs : List ℕ) (y : ℕ) (ys : List ℕ) → slice_index (xs ++ y ∷ ys) (length xs) ≡ y
item_is [] y ys = refl
item_is (x ∷ xs) y ys = item_is xs y ys

at_is : (xs : List ℕ) (y : ℕ) (ys : List ℕ) → ended_at (xs ++ y ∷ ys) (length xs) ≡ (y == 10)
at_is xs y ys = ap (λ b. b && (slice_index (xs ++ y ∷ ys) (length xs) == 10)) (lower_is xs y ys)
    ∙ ap (λ n. n == 10) (item_is xs y ys)

-- LINES

size_is : (xs ys : List ℕ) → is_one_line xs ≡ true → line_size (xs ++ 10 ∷ ys) ≡ length xs
unfolding line_size
size_is [] ys e = refl
size_is (x ∷ xs) ys e = go (x == 10) (size_is xs ys) e
  where
    go : (b : Bool) → (is_one_line xs ≡ true → line_size (xs ++ 10 ∷ ys) ≡ length xs)
        → (not b && is_one_line xs) ≡ true
        → (if b then 0 else suc (line_size (xs ++ 10 ∷ ys))) ≡ suc (length xs)
    go true more e = absurd cc
    go false more e = ap suc (more e)

first_is : (xs ys : List ℕ) → is_one_line xs ≡ true → first_line (xs ++ 10 ∷ ys) ≡ xs
first_is xs ys e = ap (λ n. take n (xs ++ 10 ∷ ys)) (size_is xs ys e) ∙ front_is xs (10 ∷ ys)

behind_is : (xs ys : List ℕ) → is_one_line xs ≡ true → behind_line (xs ++ 10 ∷ ys) ≡ ys
behind_is xs ys e = ap (λ n. drop (suc n) (xs ++ 10 ∷ ys)) (size_is xs ys e) ∙ back_is xs 10 ys

-- DIGITS

-- these are digits of a number
record IsOf (n : ℕ) (ds : List ℕ) : Type 0 where
  digits : list_all is_digit ds ≡ true
  value : value_from 0 ds ≡ n
  some : 0 < length ds

value_behind : (v : ℕ) (ds : List ℕ) (d : ℕ) → value_from v (ds ++ d ∷ []) ≡ value_from v ds * 10 + (d - 48)
value_behind v [] d = refl
value_behind v (e ∷ es) d = value_behind (v * 10 + (e - 48)) es d

digits_behind : (ds : List ℕ) (d : ℕ) → list_all is_digit ds ≡ true → is_digit d ≡ true
    → list_all is_digit (ds ++ d ∷ []) ≡ true
digits_behind [] d all e = ap (λ b. b && true) e
digits_behind (x ∷ xs) d all e = go (is_digit x) (digits_behind xs d) all
  where
    go : (b : Bool) → (list_all is_digit xs ≡ true → is_digit d ≡ true → list_all is_digit (xs ++ d ∷ []) ≡ true)
        → (b && list_all is_digit xs) ≡ true → (b && list_all is_digit (xs ++ d ∷ [])) ≡ true
    go true more all = more all e
    go false more all = absurd cc

is_a_digit : (k : ℕ) → k < 10 → is_digit (48 + k) ≡ true
is_a_digit k few = grind (arith, nat_tests)

longer : (ds : List ℕ) (d : ℕ) → 0 < length (ds ++ d ∷ [])
longer [] d = omega arith
longer (x ∷ xs) d = omega arith

decimal_is : (n : ℕ) → n < 2 ^ 64 → IsOf n (decimal n)
decimal_is = decimal_by_steps IsOf
    (λ n few. record {
      digits = ap (λ b. b && true) (is_a_digit n few);
      value = omega arith;
      some = omega arith;
    })
    (λ n ds many of. record {
      digits = digits_behind ds (48 + n % 10) of.digits (is_a_digit (n % 10) (omega arith));
      value = omega (arith, value_behind 0 ds (48 + n % 10), of.value);
      some = longer ds (48 + n % 10);
    })

digit_feeds : (d : ℕ) → is_digit d ≡ true → not (d == 10) ≡ true
digit_feeds d e = go (d == 10) refl
  where
    go : (b : Bool) → (d == 10) ≡ b → not b ≡ true
    go true f = let s : is_digit 10 ≡ true = subst (λ n. is_digit n ≡ true) (eqb-true d 10 f) e in absurd cc
    go false f = refl

digits_line : (ds : List ℕ) → list_all is_digit ds ≡ true → is_one_line ds ≡ true
digits_line [] all = refl
digits_line (d ∷ ds) all = go (is_digit d) refl all (digits_line ds)
  where
    go : (b : Bool) → is_digit d ≡ b → (b && list_all is_digit ds) ≡ true
        → (list_all is_digit ds ≡ true → is_one_line ds ≡ true) → (not (d == 10) && is_one_line ds) ≡ true
    go true e all more = ap (λ b. b && is_one_line ds) (digit_feeds d e) ∙ more all
    go false e all more = absurd cc

number_told : (n : ℕ) (ds : List ℕ) → n < 2 ^ 64 → IsOf n ds → number_within most_seed ds ≡ Some n
number_told n ds few of =
    go (length ds == 0) (list_all is_digit ds) (nat_le (value_from 0 ds) most_seed)
    (grind (arith, nat_tests, of.some)) of.digits (grind (arith, nat_tests, of.value, few))
    ∙ ap (λ v. Some v) of.value
  where
    go : (none all fits : Bool) → none ≡ false → all ≡ true → fits ≡ true
        → (if (not none && all) && fits then Some (value_from 0 ds) else None) ≡ Some (value_from 0 ds)
    go false true true a b c = refl
    go true all fits a b c = absurd cc
    go false false fits a b c = absurd cc
    go false true false a b c = absurd cc

size_said : (n : ℕ) (ds : List ℕ) → n < 2 ^ 64 → IsOf n ds → size_told (codes "output " ++ ds) ≡ Some n
unfolding size_told
size_said n ds few of = number_told n ds few of

-- REPORTS

plus_one : (n : ℕ) → n + 1 ≡ suc n
plus_one n = omega arith

-- the pieces of a report in other groups
grouped : (head output line rest : List ℕ)
    → (((((head ++ (10 ∷ [])) ++ output) ++ (10 ∷ [])) ++ line) ++ (10 ∷ [])) ++ rest
    ≡ head ++ 10 ∷ (output ++ 10 ∷ (line ++ 10 ∷ rest))
grouped head output line rest =
    let feed : List ℕ = 10 ∷ [] in
    append_assoc ((((head ++ feed) ++ output) ++ feed) ++ line) feed rest
    ∙ append_assoc (((head ++ feed) ++ output) ++ feed) line (10 ∷ rest)
    ∙ append_assoc ((head ++ feed) ++ output) feed (line ++ 10 ∷ rest)
    ∙ append_assoc (head ++ feed) output (10 ∷ (line ++ 10 ∷ rest))
    ∙ append_assoc head feed (output ++ 10 ∷ (line ++ 10 ∷ rest))

-- a report as its first line, its output, its end and the rest
report_is : (output line rest : List ℕ)
    → output_and output line ++ rest
    ≡ (codes "output " ++ decimal (length output)) ++ 10 ∷ (output ++ 10 ∷ (line ++ 10 ∷ rest))
report_is output line rest = grouped (codes "output " ++ decimal (length output)) output line rest

-- what is told by the size of the output, of a report whose first line is known
told_is : (output line rest head : List ℕ) → is_one_line line ≡ true → is_one_line head ≡ true
    → told (Some (length output)) (head ++ 10 ∷ (output ++ 10 ∷ (line ++ 10 ∷ rest)))
    ≡ told_in_parts output line rest
unfolding told ended
told_is output line rest head one first =
    let tail : List ℕ = line ++ 10 ∷ rest in
    let body : List ℕ = output ++ 10 ∷ tail in
    ap (λ b. codes ",\"output\":" ++ (string_of (take (length output) b) ++ ended (drop (length output + 1) b)))
    (behind_is head body first)
    ∙ ap (λ t. codes ",\"output\":" ++ (string_of t ++ ended (drop (length output + 1) body)))
    (front_is output (10 ∷ tail))
    ∙ ap (λ t. codes ",\"output\":" ++ (string_of output ++ ended t))
    (ap (λ n. drop n body) (plus_one (length output)) ∙ back_is output 10 tail)
    ∙ ap (λ t. codes ",\"output\":"
    ++ (string_of output ++ (codes ",\"ending\":" ++ (string_of t ++ shown (behind_line tail)))))
    (first_is line rest one)
    ∙ ap (λ t. codes ",\"output\":" ++ (string_of output ++ (codes ",\"ending\":" ++ (string_of line ++ shown t))))
    (behind_is line rest one)

-- and the size is told
size_found : (output tail head : List ℕ) → length output < 2 ^ 64 → is_one_line head ≡ true
    → size_told head ≡ Some (length output)
    → output_size (head ++ 10 ∷ (output ++ 10 ∷ tail)) ≡ Some (length output)
size_found output tail head few first said =
    let body : List ℕ = output ++ 10 ∷ tail in
    ap (λ b. option_and_then (λ size. if ended_at b size then Some size else None)
    (size_told (first_line (head ++ 10 ∷ body)))) (behind_is head body first)
    ∙ ap (λ h. option_and_then (λ size. if ended_at body size then Some size else None) (size_told h))
    (first_is head body first)
    ∙ ap (λ o. option_and_then (λ size. if ended_at body size then Some size else None) o) said
    ∙ ap (λ (b : Bool). if b then Some (length output) else None) (at_is output 10 tail)

-- the object of a report that begins with an output and the line of an end
pub parts_told : (s : Status) (output line rest : List ℕ) → length output < 2 ^ 64 → is_one_line line ≡ true
    → json_text true s (output_and output line ++ rest)
    ≡ answered s ++ (told_in_parts output line rest ++ codes "}\n")
unfolding json_text
parts_told s output line rest few one =
    let of = decimal_is (length output) few in
    let head : List ℕ = codes "output " ++ decimal (length output) in
    let first : is_one_line head ≡ true = digits_line (decimal (length output)) of.digits in
    ap (λ t. answered s ++ (told (output_size t) t ++ codes "}\n")) (report_is output line rest)
    ∙ ap (λ o. answered s ++ (told o (head ++ 10 ∷ (output ++ 10 ∷ (line ++ 10 ∷ rest))) ++ codes "}\n"))
    (size_found output (line ++ 10 ∷ rest) head few first
    (size_said (length output) (decimal (length output)) few of))
    ∙ ap (λ t. answered s ++ (t ++ codes "}\n")) (told_is output line rest head one first)

-- What comes after a word, as the library tells it.
use Rattle.std.proofs.Common.{◌≡◌, ℕ, ◌+◌, List, [], ◌∷◌, ◌++◌, length, take, drop, refl, sym, ap}
use Rattle.std.proofs.Common.{◌∙◌}
use Rattle.std.proofs.Common.{Option, Some, None, Bool, true, false, cond}
use Rattle.std.specs.Prelude.{◌==◌, ◌≢◌, nat_eq, MatchOption}
use Rattle.std.specs.Cmp.Lexicographic.{pointwise}
use Rattle.std.proofs.lemmas.Bool.{eqb-true}
use Rattle.std.proofs.lemmas.Option.{same_Some}
use Rattle.std.proofs.lemmas.Slice.Eq.{strip_prefix_is}
use Rattle.std.proofs.lemmas.Bool.Decides.{Decides-eqb}
use denote.Ref.{Bor}
use Rattle.target_asm_spec.specs.inside.Reading.{ReadsAs, after_in}
use Rattle.target_asm_spec.proofs.Numbers.{after_front}

-- a text that has something after a word begins with it
pub after_takes : (p s r : List ℕ) → after_in p s ≡ Some r → s ≡ p ++ r
unfolding after_in
after_takes [] s r e = same_Some s r e
after_takes (c ∷ cs) [] r e = absurd cc
after_takes (c ∷ cs) (d ∷ ds) r e = step c d cs ds r (c == d) refl e (after_takes cs ds r)
  where
    step : (c d : ℕ) (cs ds r : List ℕ) (t : Bool) → (c == d) ≡ t
        → cond t (after_in cs ds) None ≡ Some r
        → (after_in cs ds ≡ Some r → ds ≡ cs ++ r) → d ∷ ds ≡ c ∷ (cs ++ r)
    step c d cs ds r true t e h =
        let a : ds ≡ cs ++ r = h e in let b : c ≡ d = eqb-true c d t in
        ap (λ (x : List ℕ). d ∷ x) a ∙ ap (λ (x : ℕ). x ∷ (cs ++ r)) (sym b)
    step c d cs ds r false t e h = absurd cc

none_after : (p s : List ℕ) → ((rest : List ℕ) → s ≢ p ++ rest) → after_in p s ≡ None
none_after p s h = by (after_in p s) refl
  where
    by : (o : Option (List ℕ)) → after_in p s ≡ o → after_in p s ≡ None
    by None e = e
    by (Some r) e = absurd (h r (after_takes p s r e))

gives : (s p : List ℕ) (r : Option (Bor (List ℕ)))
    → MatchOption r ((rest : List ℕ) → s ≢ p ++ rest) (λ x. s ≡ p ++ x.now)
    → ReadsAs (λ x. x.now) r (after_in p s)
gives s p None h = none_after p s h
gives s p (Some x) h = ap (after_in p) h ∙ after_front p x.now

pub after_gives : (s p : List ℕ) (r : Option (Bor (List ℕ)))
    → MatchOption r (pointwise nat_eq (take (length p) s) p ≡ false)
    (λ x. (pointwise nat_eq (take (length p) s) p ≡ true) × (x.now ≡ drop (length p) s)
    × (length x.now + length p ≡ length s))
    → ReadsAs (λ x. x.now) r (after_in p s)
after_gives s p r h = gives s p r (strip_prefix_is Decides-eqb s p r h)

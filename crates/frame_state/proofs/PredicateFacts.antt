-- The flags of predicates as tokens come.
use Rattle.std.proofs.Common.{◌≡◌, ℕ, ◌+◌, ◌-◌, ◌<◌, ◌≤◌, Bool, false, List, Option, Some, None}
use Rattle.std.proofs.Common.{length, get_or, set}
use Rattle.std.proofs.Common.{replicate, length-set, get_or-set_other, sym, ap, ◌∙◌, arith, inl, inr}
use Rattle.std.proofs.lemmas.List.{get_or-replicate, length-replicate, get_or_past}
use Rattle.std.proofs.lemmas.Bool.{cases_eq, cases_lt}
use Rattle.std.proofs.lemmas.Grind.{get_or-set_at}
use Rattle.trips_isa.specs.declared.block.Token.{Token}
use Rattle.trips_isa.specs.declared.block.Sense.{Sense}
use Rattle.trips_isa.specs.declared.block.Sense.TheVariants.{OnTrue, OnFalse}
use Rattle.trips_isa.specs.Rule.{Answer, matched}
use Rattle.commit_flush_spec.specs.Frames.{at}
use Rattle.base.specs.inside.Rows.{no_flags, no_items}
use Rattle.base.proofs.FlagFacts.{get_unset}
use Rattle.frame_state.specs.inside.Predicates.{Tells}

pub length_none : (A : Type 0) → (n : ℕ) → length (no_items {A = A} n) ≡ n
unfolding no_items
length_none A n = length-replicate {A = Option A} n None

get_none : (n q : ℕ) → at (no_items {A = Token} n) q ≡ None
unfolding no_items
get_none n q = elim (cases_lt q n) [
  | inl h ↦ get_or-replicate n q None None h
  | inr h ↦ get_or_past (replicate n None) q None (omega (arith, length-replicate {A = Option Token} n None))
]

-- no token has come
pub tells_none : Tells (no_items 416) (no_flags 128) (no_flags 128)
tells_none = record {
  size = length_none Token 416;
  on_true = λ s h. get_unset 128 s ∙ sym (ap (matched OnTrue) (get_none 416 (256 + s)));
  on_false = λ s h. get_unset 128 s ∙ sym (ap (matched OnFalse) (get_none 416 (256 + s)));
}

-- a token comes to an operand
pub tells_low : (spots : List Answer) (odd even : List Bool) (q : ℕ) (t : Token) → Tells spots odd even → q < 256
    → Tells (set spots q (Some t)) odd even
tells_low spots odd even q t h l = record {
  size = length-set spots q (Some t) ∙ h.size;
  on_true = λ s k. h.on_true s k ∙ ap (matched OnTrue)
      (sym (get_or-set_other spots q (256 + s) (Some t) None (λ e. omega arith)));
  on_false = λ s k. h.on_false s k ∙ ap (matched OnFalse)
      (sym (get_or-set_other spots q (256 + s) (Some t) None (λ e. omega arith)));
}

-- one flag more
flag_at : (spots : List Answer) (flags : List Bool) (sense : Sense) (q s : ℕ) (t : Token) → 256 ≤ q → s < 128
    → length spots ≡ 416 → length flags ≡ 128 → get_or flags s false ≡ matched sense (at spots (256 + s))
    → get_or (set flags (q - 256) (matched sense (Some t))) s false
    ≡ matched sense (at (set spots q (Some t)) (256 + s))
flag_at spots flags sense q s t l k ls lf old = elim (cases_eq (256 + s) q) [
  | inl e ↦
      let same : s ≡ q - 256 = omega (arith, e) in
      let inside : q < length spots = omega (arith, e, ls) in
      let within : q - 256 < length flags = omega (arith, e, lf) in
      get_or-set_at flags (q - 256) s (matched sense (Some t)) false same within
      ∙ ap (matched sense) (sym (get_or-set_at spots q (256 + s) (Some t) None e inside))
  | inr ne ↦
      get_or-set_other flags (q - 256) s (matched sense (Some t)) false (λ e. ne (omega (arith, e)))
      ∙ old ∙ ap (matched sense) (sym (get_or-set_other spots q (256 + s) (Some t) None ne))
]

-- a token comes to a predicate, or to a write
pub tells_high : (spots : List Answer) (odd even : List Bool) (q : ℕ) (t : Token) → Tells spots odd even → 256 ≤ q
    → length odd ≡ 128 → length even ≡ 128
    → Tells (set spots q (Some t)) (set odd (q - 256) (matched OnTrue (Some t)))
    (set even (q - 256) (matched OnFalse (Some t)))
tells_high spots odd even q t h l lo le = record {
  size = length-set spots q (Some t) ∙ h.size;
  on_true = λ s k. flag_at spots odd OnTrue q s t l k h.size lo (h.on_true s k);
  on_false = λ s k. flag_at spots even OnFalse q s t l k h.size le (h.on_false s k);
}

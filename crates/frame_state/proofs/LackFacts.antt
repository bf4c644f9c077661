-- The first that is missing, and that none is missing where all have come.
use Rattle.std.proofs.Common.{◌≡◌, ℕ, zero, suc, ◌+◌, ◌-◌, ◌<◌, Bool, true, false, cond, ◌&&◌}
use Rattle.std.proofs.Common.{length, Option, Some, None, refl, sym, ap, ap₂, ◌∙◌, arith}
use Rattle.std.specs.Prelude.{is_none, is_some}
use Rattle.commit_flush_spec.specs.Frames.{Frame, Exit, numbers}
use Rattle.commit_flush_spec.specs.Ends.{all_below, write_came, store_came, complete}
use Rattle.frame_state.specs.declared.parts.Lack.{Lack}
use Rattle.frame_state.specs.Lacks.{first_missing, exit_lack, or_store, or_write, least_lack}
use Rattle.frame_state.proofs.CompleteFacts.{not_all, numbers_are}

-- a walk -----------------------------------------------------------------------------------------

-- the first that is missing of n is looked for from 0 on
pub starts : (p : ℕ → Bool) (n : ℕ) → first_missing p n 0 ≡ first_missing p (n - 0) 0
starts p n = let e : n ≡ n - 0 = omega arith in ap (λ m. first_missing p m 0) e

-- the first number that is missing is looked for among 32, from 0 on
pub starts_numbers : (p : ℕ → Bool) → first_missing p numbers 0 ≡ first_missing p 32 0
starts_numbers p = ap (λ m. first_missing p m 0) numbers_are

-- where number k has not come, it is the first from k on that is missing
pub missing_here : (p : ℕ → Bool) (n k : ℕ) → k < n → p k ≡ false → first_missing p (n - k) k ≡ Some k
missing_here p n k l e =
    let c : n - k ≡ suc (n - suc k) = omega (arith, l) in
    ap (λ m. first_missing p m k) c ∙ ap (λ b. cond b (first_missing p (n - suc k) (suc k)) (Some k)) e

-- where number k has come, the first that is missing is looked for from k + 1 on
pub come_here : (p : ℕ → Bool) (n k m : ℕ) → k < n → m ≡ k + 1 → p k ≡ true
    → first_missing p (n - k) k ≡ first_missing p (n - m) m
come_here p n k m l s e =
    let c : n - k ≡ suc (n - suc k) = omega (arith, l) in
    let next : suc k ≡ m = omega (arith, s) in
    ap (λ j. first_missing p j k) c ∙ ap (λ b. cond b (first_missing p (n - suc k) (suc k)) (Some k)) e
    ∙ ap (λ j. first_missing p (n - j) j) next

-- from n on none of n is missing
pub none_left : (p : ℕ → Bool) (n k : ℕ) → n ≡ k → first_missing p (n - k) k ≡ None
none_left p n k e = let c : n - k ≡ 0 = omega (arith, e) in ap (λ m. first_missing p m k) c

-- all have come ----------------------------------------------------------------------------------

-- none from number k on is missing exactly where all have come, where those below it have
counted : (p : ℕ → Bool) (n k m : ℕ) → m ≡ n + k → all_below p k ≡ true
    → is_none (first_missing p n k) ≡ all_below p m
counted p zero k m e a = sym a ∙ (let same : k ≡ m = omega (arith, e) in ap (all_below p) same)
counted p (suc n) k m e a = go (p k) refl (λ h. counted p n (suc k) m (omega (arith, e)) h)
  where
    go : (b : Bool) → p k ≡ b
        → (all_below p (suc k) ≡ true → is_none (first_missing p n (suc k)) ≡ all_below p m)
        → is_none (cond (p k) (first_missing p n (suc k)) (Some k)) ≡ all_below p m
    go true h next =
        ap (λ b. is_none (cond b (first_missing p n (suc k)) (Some k))) h ∙ next (ap₂ (λ x y. x && y) h a)
    go false h next =
        ap (λ b. is_none (cond b (first_missing p n (suc k)) (Some k))) h
        ∙ sym (not_all p m k (omega (arith, e)) h)

all_come : (p : ℕ → Bool) (n : ℕ) → is_none (first_missing p n 0) ≡ all_below p n
all_come p n = counted p n 0 n (omega arith) refl

write_first : (w : Option ℕ) (rest : Option Lack) → is_none (or_write w rest) ≡ (is_none w && is_none rest)
write_first None rest = refl
write_first (Some w) rest = refl

store_first : (s : Option ℕ) (rest : Option Lack) → is_none (or_store s rest) ≡ (is_none s && is_none rest)
store_first None rest = refl
store_first (Some s) rest = refl

exit_last : (e : Option Exit) → is_none (exit_lack e) ≡ is_some e
exit_last None = refl
exit_last (Some e) = refl

-- a frame lacks nothing exactly where it is complete
pub lacks_none : (f : Frame) → is_none (least_lack f) ≡ complete f
lacks_none f =
    write_first (first_missing (write_came f) (length f.code.writes.items) 0) _
    ∙ ap₂ (λ x y. x && y) (all_come (write_came f) (length f.code.writes.items))
    (store_first (first_missing (store_came f) numbers 0) (exit_lack f.exit)
    ∙ ap₂ (λ x y. x && y) (all_come (store_came f) numbers) (exit_last f.exit))

-- Tables of names: where a register is named first, and what a new name makes of the table.
use Rattle.std.proofs.Common.{◌≡◌, ℕ, zero, suc, ◌+◌, ◌<◌, Bool, true, false, cond, nat_eq, List, [], ◌∷◌, ◌++◌}
use Rattle.std.proofs.Common.{length, set, refl, sym, ap, subst, ◌∙◌, arith}
use Rattle.std.specs.Prelude.{Option, Some, None}
use Rattle.std.proofs.Math.Path.{fun_ext}
use Rattle.std.proofs.lemmas.Bool.Decides.{nat_tests}
use Rattle.predication.specs.declared.work.Named.{Named}
use Rattle.predication.specs.declared.work.Noted.{Noted}
use Rattle.predication.specs.inside.Environments.{Entry, Env, Bits, put, note}
use Rattle.predication.specs.inside.Emits.{puts, env_of, place_from, bits_of, noted_from}

-- PUTTING

over : {A : Type 0} (b : Bool) (e d f : A) → cond b e (cond b d f) ≡ cond b e f
over true e d f = refl
over false e d f = refl

swap : {A : Type 0} (a b : Bool) (d e f : A) → (a ≡ true → b ≡ true → ⊥)
    → cond a d (cond b e f) ≡ cond b e (cond a d f)
swap true true d e f n = absurd (n refl refl)
swap true false d e f n = refl
swap false true d e f n = refl
swap false false d e f n = refl

-- the later of two puts at one register counts
put_over : (env : Env) (s r : ℕ) (d e : Entry) → nat_eq s r ≡ true → put (put env s d) r e ≡ put env r e
put_over env s r d e same =
    let q : s ≡ r = grind (arith, nat_tests) in
    let f : put (put env r d) r e ≡ put env r e = fun_ext (λ x. over (nat_eq x r) e d (env x)) in
    subst (λ (z : ℕ). put (put env z d) r e ≡ put env r e) (sym q) f

apart : (x s r : ℕ) → nat_eq s r ≡ false → nat_eq x s ≡ true → nat_eq x r ≡ true → ⊥
apart x s r n a b = let p : s ≡ r = grind (arith, nat_tests) in absurd (grind (arith, nat_tests))

-- puts at two registers may change places
put_swap : (env : Env) (s r : ℕ) (d e : Entry) → nat_eq s r ≡ false
    → put (put env r e) s d ≡ put (put env s d) r e
put_swap env s r d e n =
    fun_ext (λ x. swap (nat_eq x s) (nat_eq x r) d e (env x) (λ a b. apart x s r n a b))

note_over : (bits : Bits) (s r : ℕ) (d e : Option ℕ) → nat_eq s r ≡ true
    → note (note bits s d) r e ≡ note bits r e
note_over bits s r d e same =
    let q : s ≡ r = grind (arith, nat_tests) in
    let f : note (note bits r d) r e ≡ note bits r e = fun_ext (λ x. over (nat_eq x r) e d (bits x)) in
    subst (λ (z : ℕ). note (note bits z d) r e ≡ note bits r e) (sym q) f

note_swap : (bits : Bits) (s r : ℕ) (d e : Option ℕ) → nat_eq s r ≡ false
    → note (note bits r e) s d ≡ note (note bits s d) r e
note_swap bits s r d e n =
    fun_ext (λ x. swap (nat_eq x s) (nat_eq x r) d e (bits x) (λ a b. apart x s r n a b))

-- ENTRIES

-- a register that is named: its place, and what another entry there makes of the table
pub record Placed (ns : List Named) (r d : ℕ) : Type 0 where
  within : d < length ns
  env : (e : Entry) → env_of (set ns d (record { register = r; entry = e })) ≡ put (env_of ns) r e

abbrev Behind : (at r i : ℕ) → List Named → Type 0
Behind at r i ns = (d : ℕ) × (i ≡ at + d) × Placed ns r d

place_at : (at r i : ℕ) (ns : List Named) → place_from at r ns ≡ Some i → Behind at r i ns
place_at at r i [] x = absurd (cc)
place_at at r i (n ∷ ns) x = go (nat_eq n.register r) refl x (λ y. place_at (suc at) r i ns y)
  where
    go : (b : Bool) → nat_eq n.register r ≡ b → cond b (Some at) (place_from (suc at) r ns) ≡ Some i
        → (place_from (suc at) r ns ≡ Some i → Behind (suc at) r i ns) → Behind at r i (n ∷ ns)
    go true b x ih =
        let q : at ≡ i = cc in (
          zero,
          omega (arith, q),
          record {
            within = omega arith;
            env = λ e. sym (put_over (env_of ns) n.register r n.entry e b);
          },
        )
    go false b x ih =
        let y = ih x in (
          suc y.0,
          omega (arith, y.1),
          record {
            within = omega (arith, y.2.within);
            env = λ e. ap (λ (z : Env). put z n.register n.entry) (y.2.env e)
                ∙ put_swap (env_of ns) n.register r n.entry e b;
          },
        )

placed : (r i : ℕ) (ns : List Named) → place_from 0 r ns ≡ Some i → Placed ns r i
placed r i ns x =
    let y = place_at 0 r i ns x in
    let q : y.0 ≡ i = omega (arith, y.1) in
    subst (λ (d : ℕ). Placed ns r d) q y.2

-- the place of a register is within the table
pub placed_within : (r i : ℕ) (ns : List Named) → place_from 0 r ns ≡ Some i → i < length ns
placed_within r i ns x = (placed r i ns x).within

-- a new entry at a register's place is what the register now stands for
pub placed_env : (r i : ℕ) (ns : List Named) (e : Entry) → place_from 0 r ns ≡ Some i
    → env_of (set ns i (record { register = r; entry = e })) ≡ put (env_of ns) r e
placed_env r i ns e x = (placed r i ns x).env e

-- a register that is not named yet
named_from : (at r : ℕ) (ns : List Named) (e : Entry) → place_from at r ns ≡ None
    → env_of (ns ++ record { register = r; entry = e } ∷ []) ≡ put (env_of ns) r e
named_from at r [] e x = refl
named_from at r (n ∷ ns) e x = go (nat_eq n.register r) refl x (λ y. named_from (suc at) r ns e y)
  where
    go : (b : Bool) → nat_eq n.register r ≡ b → cond b (Some at) (place_from (suc at) r ns) ≡ None
        → (place_from (suc at) r ns ≡ None
        → env_of (ns ++ record { register = r; entry = e } ∷ []) ≡ put (env_of ns) r e)
        → env_of ((n ∷ ns) ++ record { register = r; entry = e } ∷ []) ≡ put (env_of (n ∷ ns)) r e
    go true b x ih = absurd (cc)
    go false b x ih = ap (λ (z : Env). put z n.register n.entry) (ih x)
        ∙ put_swap (env_of ns) n.register r n.entry e b

-- a new entry behind the table is what its register now stands for
pub unplaced_env : (r : ℕ) (ns : List Named) (e : Entry) → place_from 0 r ns ≡ None
    → env_of (ns ++ record { register = r; entry = e } ∷ []) ≡ put (env_of ns) r e
unplaced_env r ns e x = named_from 0 r ns e x

-- the last of a list is put first
pub puts_last : (ns : List Named) (n : Named) (env : Env)
    → puts (ns ++ n ∷ []) env ≡ puts ns (put env n.register n.entry)
puts_last [] n env = refl
puts_last (m ∷ ns) n env = ap (λ (z : Env). put z m.register m.entry) (puts_last ns n env)

-- BITS

pub record PlacedBit (ns : List Noted) (r d : ℕ) : Type 0 where
  within : d < length ns
  bits : (b : Option ℕ) → bits_of (set ns d (record { register = r; bit = b })) ≡ note (bits_of ns) r b

abbrev BehindBit : (at r i : ℕ) → List Noted → Type 0
BehindBit at r i ns = (d : ℕ) × (i ≡ at + d) × PlacedBit ns r d

bit_place_at : (at r i : ℕ) (ns : List Noted) → noted_from at r ns ≡ Some i → BehindBit at r i ns
bit_place_at at r i [] x = absurd (cc)
bit_place_at at r i (n ∷ ns) x = go (nat_eq n.register r) refl x (λ y. bit_place_at (suc at) r i ns y)
  where
    go : (b : Bool) → nat_eq n.register r ≡ b → cond b (Some at) (noted_from (suc at) r ns) ≡ Some i
        → (noted_from (suc at) r ns ≡ Some i → BehindBit (suc at) r i ns) → BehindBit at r i (n ∷ ns)
    go true b x ih =
        let q : at ≡ i = cc in (
          zero,
          omega (arith, q),
          record {
            within = omega arith;
            bits = λ e. sym (note_over (bits_of ns) n.register r n.bit e b);
          },
        )
    go false b x ih =
        let y = ih x in (
          suc y.0,
          omega (arith, y.1),
          record {
            within = omega (arith, y.2.within);
            bits = λ e. ap (λ (z : Bits). note z n.register n.bit) (y.2.bits e)
                ∙ note_swap (bits_of ns) n.register r n.bit e b;
          },
        )

bit_placed : (r i : ℕ) (ns : List Noted) → noted_from 0 r ns ≡ Some i → PlacedBit ns r i
bit_placed r i ns x =
    let y = bit_place_at 0 r i ns x in
    let q : y.0 ≡ i = omega (arith, y.1) in
    subst (λ (d : ℕ). PlacedBit ns r d) q y.2

-- the place of a register's bit is within the table
pub placed_bit_within : (r i : ℕ) (ns : List Noted) → noted_from 0 r ns ≡ Some i → i < length ns
placed_bit_within r i ns x = (bit_placed r i ns x).within

-- a new bit at a register's place is its bit now
pub placed_bit : (r i : ℕ) (ns : List Noted) (b : Option ℕ) → noted_from 0 r ns ≡ Some i
    → bits_of (set ns i (record { register = r; bit = b })) ≡ note (bits_of ns) r b
placed_bit r i ns b x = (bit_placed r i ns x).bits b

noted_past : (at r : ℕ) (ns : List Noted) (b : Option ℕ) → noted_from at r ns ≡ None
    → bits_of (ns ++ record { register = r; bit = b } ∷ []) ≡ note (bits_of ns) r b
noted_past at r [] b x = refl
noted_past at r (n ∷ ns) b x = go (nat_eq n.register r) refl x (λ y. noted_past (suc at) r ns b y)
  where
    go : (c : Bool) → nat_eq n.register r ≡ c → cond c (Some at) (noted_from (suc at) r ns) ≡ None
        → (noted_from (suc at) r ns ≡ None
        → bits_of (ns ++ record { register = r; bit = b } ∷ []) ≡ note (bits_of ns) r b)
        → bits_of ((n ∷ ns) ++ record { register = r; bit = b } ∷ []) ≡ note (bits_of (n ∷ ns)) r b
    go true c x ih = absurd (cc)
    go false c x ih = ap (λ (z : Bits). note z n.register n.bit) (ih x)
        ∙ note_swap (bits_of ns) n.register r n.bit b c

-- a new bit behind the table is its register's bit now
pub unplaced_bit : (r : ℕ) (ns : List Noted) (b : Option ℕ) → noted_from 0 r ns ≡ None
    → bits_of (ns ++ record { register = r; bit = b } ∷ []) ≡ note (bits_of ns) r b
unplaced_bit r ns b x = noted_past 0 r ns b x

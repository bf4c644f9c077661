-- Stores of no value change neither what loads see nor memory.
use Rattle.std.proofs.Common.{◌≡◌, ℕ, zero, suc, ◌+◌, ◌*◌, List, [], ◌∷◌, ◌++◌}
use Rattle.std.proofs.Common.{refl, sym, ap, ◌∙◌}
use Rattle.std.specs.Prelude.{Option, Some, None, slice_index}
use Rattle.std.proofs.Math.Path.{fun_ext}
use Rattle.trips_isa.specs.declared.block.Stored.{Stored}
use Rattle.trips_isa.specs.Forms.{form_of, size_of}
use Rattle.trips_isa.specs.Tables.{or_else}
use Rattle.trips_isa.specs.Stores.{byte_stored, byte_of, or_byte, byte_seen, bytes_seen, put_value, store_all}
use Rattle.trips_isa.specs.Stores.{listed, listed_below}
use Rattle.trips_isa.specs.Blocks.{form_computes}
use Rattle.ir_forms.specs.declared.flow.FlowNode.{FlowNode}
use Rattle.ir_forms.specs.inside.FlowRuns.{meant, inst_of}

-- nothing is stored, or a store of no value
abbrev pub Hollow : Option Stored → Type 0
Hollow None = Unit {0}
Hollow (Some s) = s.value ≡ None

-- of two hollow stores the one that is taken is hollow
pub hollow_or : (a b : Option Stored) → Hollow a → Hollow b → Hollow (or_else a b)
hollow_or None b x y = y
hollow_or (Some s) b x y = x

no_byte : (x : Option Stored) (a : ℕ) → Hollow x → byte_of x a ≡ None
no_byte None a e = refl
no_byte (Some s) a e = ap (λ (v : Option ℕ). byte_stored s v a) e

or_byte_of : (s x : Option Stored) (a : ℕ) → Hollow x → byte_of (or_else s x) a ≡ byte_of s a
or_byte_of None x a e = no_byte x a e
or_byte_of (Some s) x a e = refl

put_none : (x : Option Stored) (mem : List ℕ) → Hollow x → store_all mem (listed x) ≡ mem
put_none None mem e = refl
put_none (Some s) mem e = ap (put_value mem s) e

or_put : (s x : Option Stored) (mem : List ℕ) → Hollow x
    → store_all mem (listed (or_else s x)) ≡ store_all mem (listed s)
or_put None x mem e = put_none x mem e
or_put (Some s) x mem e = refl

store_append : (a b : List Stored) (mem : List ℕ) → store_all mem (a ++ b) ≡ store_all (store_all mem a) b
store_append [] b mem = refl
store_append (s ∷ a) b mem = store_append a b (put_value mem s s.value)

module _ (st old : ℕ → Option Stored) (adds : (n : ℕ)
    → (x : Option Stored) × (st n ≡ or_else (old n) x) × Hollow x) where
  same_byte : (n a : ℕ) → byte_of (st n) a ≡ byte_of (old n) a
  same_byte n a = let w = adds n in ap (λ (s : Option Stored). byte_of s a) w.1 ∙ or_byte_of (old n) w.0 a w.2

  same_seen : (mem : ℕ → ℕ) (n a : ℕ) → byte_seen st mem n a ≡ byte_seen old mem n a
  same_seen mem zero a = refl
  same_seen mem (suc n) a = ap (λ (b : Option ℕ). or_byte b (byte_seen st mem n a)) (same_byte n a)
      ∙ ap (or_byte (byte_of (old n) a)) (same_seen mem n a)

  same_bytes : (mem : ℕ → ℕ) (n a k : ℕ) → bytes_seen st mem n a k ≡ bytes_seen old mem n a k
  same_bytes mem n a zero = refl
  same_bytes mem n a (suc k) =
      ap (λ (x : ℕ). x * 256 + byte_seen st mem n (a + k)) (same_bytes mem n a k)
      ∙ ap (λ (x : ℕ). bytes_seen old mem n a k * 256 + x) (same_seen mem n (a + k))

  -- hollow stores besides leave what loads see
  pub same_meant : (mem : List ℕ) → meant st mem ≡ meant old mem
  same_meant mem =
      fun_ext (λ (j : ℕ).
      fun_ext (λ (n : FlowNode).
      ap (form_computes (form_of n.op) (inst_of n))
      (fun_ext (λ (a : ℕ). same_bytes (slice_index mem) n.number a (size_of n.op)))))

  -- hollow stores besides leave memory
  pub same_memory : (mem : List ℕ) (n : ℕ) → store_all mem (listed_below st n) ≡ store_all mem (listed_below old n)
  same_memory mem zero = refl
  same_memory mem (suc n) =
      let w = adds n in
      store_append (listed_below st n) (listed (st n)) mem
      ∙ (ap (λ (m : List ℕ). store_all m (listed (st n))) (same_memory mem n)
      ∙ (ap (λ (s : Option Stored). store_all (store_all mem (listed_below old n)) (listed s)) w.1
      ∙ (or_put (old n) w.0 (store_all mem (listed_below old n)) w.2
      ∙ sym (store_append (listed_below old n) (listed (old n)) mem))))

-- Words stay words: what a block leaves where its registers and memory hold words.
use Rattle.std.proofs.Common.{◌≡◌, ℕ, zero, suc, ◌+◌, ◌*◌, ◌/◌, ◌%◌, ◌^◌, ◌<◌, Bool, true}
use Rattle.std.proofs.Common.{false, cond, List, [], ◌∷◌, length, None, refl, ◌∙◌, arith, length-set}
use Rattle.std.specs.Prelude.{nat_eq, slice_index, slice_set}
use Rattle.std.proofs.Math.Nat.{mod-lt}
use Rattle.std.proofs.lemmas.List.Elements.{All-cons}
use Rattle.trips_isa.specs.declared.op.Op.{Op}
use Rattle.trips_isa.specs.Alu.{loaded_as}
use Rattle.trips_isa.specs.Forms.{size_of}
use Rattle.trips_isa.specs.Stores.{is_good_address, put_bytes, data_size}
use Rattle.ir_forms.specs.declared.hyper.Source.{Source}
use Rattle.ir_forms.specs.declared.hyper.Source.TheVariants.{Const, Reg}
use Rattle.ir_forms.specs.declared.hyper.Exit.{Exit}
use Rattle.ir_forms.specs.declared.hyper.Exit.TheVariants as exit
use Rattle.ir_forms.specs.inside.HyperCode.{Items, Done, Set, Load, Save, If}
use Rattle.ir_forms.specs.inside.HyperFits.{FitsSource, FitsItems}
use Rattle.ir_forms.specs.inside.HyperRuns.{Machine, Layout, with_register, with_memory, value_of, number_in}
use Rattle.ir_forms.specs.inside.HyperRuns.{loaded, saved, pick, after_items, exit_of, leaving}
use Rattle.ir_forms.specs.inside.HyperWords.{AreBytes, HasWords, HasAddresses}
use Rattle.ir_forms.specs.inside.Laws.{KeepsWords}
use Rattle.trips_isa.proofs.WordLemmas.{alu_fits, loaded_fits, seen_is_word}

-- BYTES

index_low : (mem : List ℕ) (i : ℕ) → AreBytes mem → slice_index mem i < 256
index_low [] i a = omega arith
index_low (b ∷ mem) zero a = a 0 0 (omega arith)
index_low (b ∷ mem) (suc i) a = index_low mem i (λ j d l. a (suc j) d (omega arith))

loaded_low : (op : Op) (mem : List ℕ) (a : ℕ) → AreBytes mem
    → loaded_as op (number_in mem a (size_of op)) < 2 ^ 64
loaded_low op mem a bytes =
    loaded_fits op (number_in mem a (size_of op))
    (seen_is_word (λ n. None) (slice_index mem) 0 a op (λ i. index_low mem i bytes))

set_bytes : (mem : List ℕ) (i v : ℕ) → AreBytes mem → v < 256 → AreBytes (slice_set mem i v)
set_bytes [] i v a l = a
set_bytes (b ∷ mem) zero v a l = All-cons (λ b. b < 256) v mem l (λ j d l. a (suc j) d (omega arith))
set_bytes (b ∷ mem) (suc i) v a l =
    All-cons (λ b. b < 256) b (slice_set mem i v) (a 0 0 (omega arith))
    (set_bytes mem i v (λ j d l. a (suc j) d (omega arith)) l)

put_low : (mem : List ℕ) (a k v : ℕ) → AreBytes mem → AreBytes (put_bytes mem a k v)
put_low mem a zero v bytes = bytes
put_low mem a (suc k) v bytes =
    put_low (slice_set mem (a + k) (v % 256)) a k (v / 256)
    (set_bytes mem (a + k) (v % 256) bytes (mod-lt v (omega arith)))

put_length : (mem : List ℕ) (a k v : ℕ) → length (put_bytes mem a k v) ≡ length mem
put_length mem a zero v = refl
put_length mem a (suc k) v =
    put_length (slice_set mem (a + k) (v % 256)) a k (v / 256) ∙ length-set mem (a + k) (v % 256)

-- ITEMS

value_low : (regs : ℕ → ℕ) (s : Source) → ((r : ℕ) → regs r < 2 ^ 64) → FitsSource s
    → value_of regs s < 2 ^ 64
value_low regs (Const w) h k = k
value_low regs (Reg r) h k = h r

words_put : (m : Machine) (to w : ℕ) → HasWords m → w < 2 ^ 64 → HasWords (with_register m to w)
words_put m to w words l = record {
  registers = λ r. go r (nat_eq r to);
  memory = words.memory;
  input = words.input;
  size = words.size;
}
  where
    go : (r : ℕ) (v : Bool) → cond v w (m.registers r) < 2 ^ 64
    go r true = l
    go r false = words.registers r

load_low : (op : Op) (mem : List ℕ) (a : ℕ) → AreBytes mem → loaded op mem a < 2 ^ 64
load_low op mem a bytes = go (is_good_address a (size_of op))
  where
    go : (v : Bool) → cond v (loaded_as op (number_in mem a (size_of op))) 0 < 2 ^ 64
    go true = loaded_low op mem a bytes
    go false = omega arith

words_saved : (m : Machine) (op : Op) (a v : ℕ) → HasWords m
    → HasWords (with_memory m (saved op m.memory a v))
words_saved m op a v words = record {
  registers = words.registers;
  memory = kept (is_good_address a (size_of op));
  input = words.input;
  size = sized (is_good_address a (size_of op));
}
  where
    kept : (c : Bool) → AreBytes (cond c (put_bytes m.memory a (size_of op) v) m.memory)
    kept true = put_low m.memory a (size_of op) v words.memory
    kept false = words.memory

    sized : (c : Bool) → length (cond c (put_bytes m.memory a (size_of op) v) m.memory) ≡ data_size
    sized true = put_length m.memory a (size_of op) v ∙ words.size
    sized false = words.size

items_words : (is : Items) (m : Machine) → FitsItems is → HasWords m → HasWords (after_items is m)
items_words Done m c words = words
items_words (Set to op a b rest) m c words =
    items_words rest _ c.4 (words_put m to _ words
    (alu_fits op _ _ (value_low m.registers a words.registers c.2)
    (value_low m.registers b words.registers c.3)))
items_words (Load to op a rest) m c words =
    items_words rest _ c.3 (words_put m to _ words (load_low op m.memory _ words.memory))
items_words (Save op a v rest) m c words =
    items_words rest _ c.3 (words_saved m op _ _ words)
items_words (If t one other rest) m c words =
    items_words rest _ c.3 (picked (value_of m.registers t) (items_words one m c.1 words)
    (items_words other m c.2 words))
  where
    picked : (w : ℕ) → HasWords (after_items one m) → HasWords (after_items other m)
        → HasWords (pick w (after_items one m) (after_items other m))
    picked zero x y = y
    picked (suc w) x y = x

leaving_words : (at : Layout) (e : Exit) (m : Machine) → HasAddresses at → HasWords m
    → HasWords (leaving at e m)
leaving_words at (exit.Jump l) m f words = words
leaving_words at (exit.Call l back) m f words = words_put m 2 (at.address back) words (f back)
leaving_words at exit.Return m f words = words
leaving_words at (exit.System l) m f words = words

-- a block that fits leaves words where it begins with words
pub keeps_words : KeepsWords
keeps_words at b f fits m words =
    leaving_words at (exit_of b.tail (after_items b.items m).registers) (after_items b.items m) f
    (items_words b.items m fits.items words)

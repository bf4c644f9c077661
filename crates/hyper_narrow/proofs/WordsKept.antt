-- Words stay words in narrowed blocks.
use Rattle.std.proofs.Common.{ℕ, ◌^◌, ◌<◌, Bool, true, false, cond}
use Rattle.ir_forms.specs.inside.HyperRuns.{Machine, after_block}
use Rattle.ir_forms.specs.inside.HyperWords.{HasWords}
use Rattle.ir_forms.proofs.WordsKept.{keeps_words}
use Rattle.hyper_narrow.specs.declared.narrowed.Lasting.{Lasting}
use Rattle.hyper_narrow.specs.inside.NarrowedCode.{outlasts}
use Rattle.hyper_narrow.specs.inside.NarrowedRuns.{keeping}
use Rattle.hyper_narrow.specs.inside.Laws.{KeepsWords}

-- a register of either machine holds a word
kept_words : (set : Lasting) (m n : Machine) → HasWords m → HasWords n → HasWords (keeping set m n)
kept_words set m n v w = record {
  registers = λ r. go r (outlasts set r);
  memory = w.memory;
  input = w.input;
  size = w.size;
}
  where
    go : (r : ℕ) (c : Bool) → cond c (n.registers r) (m.registers r) < 2 ^ 64
    go r true = w.registers r
    go r false = v.registers r

-- a narrowed block that fits leaves words where it begins with words
pub keeps_narrowed_words : KeepsWords
keeps_narrowed_words at c f fits m words =
    kept_words c.lasting m (after_block at c.block m) words (keeps_words at c.block f fits m words)

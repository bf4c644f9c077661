-- What is logged of flushes and of fetches that are given up, and of events that take them along.
use Rattle.std.proofs.Common.{◌≡◌, ℕ, ◌+◌, Bool, true, false, cond, List, [], ◌∷◌, ◌++◌, length, drop, map}
use Rattle.std.proofs.Common.{Option, Some, None, refl, sym, ap, ap₂, ◌∙◌, subst}
use Rattle.std.proofs.lemmas.List.{drop-map}
use Rattle.trips_isa.specs.declared.block.Block.{Block}
use Rattle.commit_flush_spec.specs.Frames.{Frame}
use Rattle.commit_flush_spec.specs.Window.{Window, Event, happens}
use Rattle.grid_cycle_spec.specs.Grid.{Grid, Fetching, numbers_of}
use Rattle.grid_cycle_spec.specs.Acting.{act, gone}
use Rattle.grid_events.specs.Notes.{Note, Why}
use Rattle.grid_events.specs.Notes as note
use Rattle.grid_events.specs.Plays.{block_of}
use Rattle.grid_events.specs.Turns.{acted, flushes, gives_up}
use Rattle.grid_log.specs.declared.log.Log.{Log}
use Rattle.grid_log.specs.Logs.{Logged}
use Rattle.grid_log.specs.inside.Telling.{flushed_by, given_up}
use Rattle.grid_log.proofs.Logging.{logged_both, logged_none}

-- flushed frames are told by their numbers
pub flushes_by : (why : Why) (fs : List Frame) → flushes why fs ≡ flushed_by why (numbers_of fs)
flushes_by why [] = refl
flushes_by why (f ∷ fs) = ap (λ (es : List Note). note.Flushes f.number why ∷ es) (flushes_by why fs)

-- so are the youngest of them
pub flushes_behind : (why : Why) (n : ℕ) (fs : List Frame)
    → flushes why (drop n fs) ≡ flushed_by why (drop n (numbers_of fs))
flushes_behind why n fs = flushes_by why (drop n fs) ∙ ap (flushed_by why) (drop_numbers n fs)
  where
    drop_numbers : (n : ℕ) (fs : List Frame) → numbers_of (drop n fs) ≡ drop n (numbers_of fs)
    drop_numbers n fs = sym (drop-map (λ (f : Frame). f.number) n fs)

-- a fetch that is given up is told by its block
pub given_by : (a b : Option Fetching) → gives_up a b ≡ given_up (block_of a) (block_of b)
given_by None b = refl
given_by (Some f) None = refl
given_by (Some f) (Some k) = refl

-- one frame more of some is flushed
pub one_flushed : (why : Why) (n : ℕ) (ns : List ℕ) (a b c : Log) → Logged a (note.Flushes n why ∷ []) b
    → Logged b (flushed_by why ns) c → Logged a (flushed_by why (n ∷ ns)) c
one_flushed why n ns a b c one rest = logged_both a b c (note.Flushes n why ∷ []) (flushed_by why ns) one rest

module _ {W : Type 0} (blocks : List Block) (budget : ℕ) (x : Note) (why : Why) (e : Event) (g : Grid W) where
  -- an event with what it takes along is told by its note, by the frames before and behind, and by the fetches
  pub acted_is : (left : ℕ) (ns : List ℕ) (before after : Option (ℕ × Bool))
      → left ≡ length (happens blocks budget e g.window).frames → ns ≡ numbers_of g.window.frames
      → before ≡ block_of g.fetching → after ≡ block_of (act blocks budget e g).fetching
      → acted x why blocks budget e g ≡ x ∷ (flushed_by why (drop left ns) ++ given_up before after)
  acted_is left ns before after l n b a =
      let w : Window = happens blocks budget e g.window in
      ap (λ (es : List Note). x ∷ (es ++ gives_up g.fetching (act blocks budget e g).fetching))
      (flushes_behind why (length w.frames) g.window.frames
      ∙ ap (λ (k : ℕ). flushed_by why (drop k (numbers_of g.window.frames))) (sym l)
      ∙ ap (λ (ms : List ℕ). flushed_by why (drop left ms)) (sym n))
      ∙ ap (λ (es : List Note). x ∷ (flushed_by why (drop left ns) ++ es))
      (given_by g.fetching (act blocks budget e g).fetching ∙ ap₂ given_up (sym b) (sym a))

abbrev pub number_or : Option ℕ → ℕ
number_or None = 0
number_or (Some k) = k

-- what is told of a fetch that is under way
pub fetched_by : (o : Option Fetching) (r : Option ℕ) (k : ℕ) (careful : Bool)
    → ((f : Fetching) → o ≡ Some f → r ≡ Some f.block) → (o ≡ None → r ≡ None)
    → ((f : Fetching) → o ≡ Some f → careful ≡ f.careful) → r ≡ Some k → Some (k, careful) ≡ block_of o
fetched_by None r k careful some none is e = absurd (let x = none refl in cc)
fetched_by (Some f) r k careful some none is e =
    ap₂ (λ (n : ℕ) (b : Bool). Some (n, b)) (ap number_or (sym e ∙ some f refl)) (is f refl)

-- and of none
pub fetched_none : (o : Option Fetching) (r : Option ℕ) → ((f : Fetching) → o ≡ Some f → r ≡ Some f.block)
    → r ≡ None → None ≡ block_of o
fetched_none None r some e = refl
fetched_none (Some f) r some e = absurd (let x = some f refl in cc)

-- One word of a parse: what it comes to, and its fault.
use Rattle.std.proofs.Common.{◌≡◌, ◌∙◌, refl, ap, ap₂, subst, Bool, cond, true, false, ℕ}
use Rattle.std.proofs.Common.{List, [], ◌∷◌, length, drop, Option, Some, None, option_map, ◌+◌, min, ◌⊎◌, inl, inr}
use Rattle.std.specs.Prelude.{◌==◌, ◌&&◌, ◌||◌, slice_get, encode_utf8}
use Rattle.std.specs.Option.{option_map_or}
use Rattle.std.specs.Str.{bytes_eq, chars, IsUtf8}
use Rattle.clap.specs.Lexer.{long_of, usize_max}
use Rattle.clap.specs.Walk.{Held, Rule, Step, Waiting, Walk, idle, option, positional, value, trailing}
use Rattle.clap.specs.Walk.{after_flag, after_step, arg_by_index, is_pending}
use Rattle.clap.specs.Walk.{long_met, long_or_other}
use Rattle.clap.specs.Walk.{plain_word, positional_held, pushed, settled, short_or_plain, subcommand_met}
use Rattle.clap.specs.Walk.{subcommand_or_other, to_positional, walked, word_met}
use Rattle.clap.specs.Simple.{Shape}
use Rattle.clap.specs.Kinds.{Kinds, or_else}
use Rattle.clap.specs.Faults.{bundle_fault, bundle_step_fault, flag_word_fault}
use Rattle.clap.specs.Faults.{flags_fault, long_fault, other_fault, positional_fault, settle_fault}
use Rattle.clap.specs.Faults.{short_fault, step_fault, stray_fault, turn_fault, word_fault}
use Rattle.trips_requests.specs.Words.{Text, Named, valued, flag, named, is_dashed, behind_dashes}
use Rattle.trips_requests.specs.Words.{name_in, value_in}
use Rattle.trips_words.specs.inside.Read.{rule_for, place_rule, place_rules, rules_for, shape_for}
use Rattle.trips_words.proofs.Rules.{by_long, by_short, by_index, any_place}
use Rattle.trips_words.proofs.Dashes.{dashes, not_dashes, long_is, not_long, not_short, not_behind, short_is}
use Rattle.trips_words.proofs.Dashes.{some_char}
use Rattle.trips_words.proofs.Faults.{Fails, fails_as, fails_first, some_kind}

-- where the parse of a command without subcommands stands
abbrev pub at : Held → Waiting → ℕ → Bool → Walk
at h waiting position is_trailing = record {
  held = h;
  waiting = waiting;
  position = position;
  is_trailing = is_trailing;
  stopped = None;
}

no_sub : (waiting : Waiting) (word : Text) → subcommand_met [] waiting word ≡ None
no_sub idle word = refl
no_sub (option id) word = refl
no_sub positional word = refl

pub walked_at : (c : List Rule) (h : Held) (waiting : Waiting) (position : ℕ) (b : Bool) (word : Text)
    → walked c [] (at h waiting position b) word
    ≡ after_step c word (at h waiting position b) (word_met c [] b waiting position word h).0
    (word_met c [] b waiting position word h).1
unfolding walked
walked_at c h waiting position b word = refl

module _ (name : Text) (options : List Named) (places : List Text) where
  abbrev s : Shape
  s = shape_for name options places

  abbrev c : List Rule
  c = rules_for options places

  -- the turn, by the fault of its word and what the word comes to
  turn_by : (h : Held) (waiting : Waiting) (position : ℕ) (b : Bool) (word : Text) (k : Kinds)
      (m : Held × Step) → word_fault s [] b waiting word h ≡ k
      → word_met c [] b waiting position word h ≡ m
      → turn_fault s [] (at h waiting position b) word ≡ or_else k (step_fault s position m.0 m.1)
  turn_by h waiting position b word k m e f =
      ap₂ (λ (x : Kinds) (y : Held × Step). or_else x (step_fault s position y.0 y.1)) e f

  walked_by : (h : Held) (waiting : Waiting) (position : ℕ) (b : Bool) (word : Text)
      (m : Held × Step) → word_met c [] b waiting position word h ≡ m
      → walked c [] (at h waiting position b) word
      ≡ after_step c word (at h waiting position b) m.0 m.1
  walked_by h waiting position b word m f = walked_at c h waiting position b word
      ∙ ap (λ (y : Held × Step). after_step c word (at h waiting position b) y.0 y.1) f

  -- two dashes
  dashes_fault : (h : Held) (waiting : Waiting) (word : Text) → bytes_eq word dashes ≡ true
      → word_fault s [] false waiting word h ≡ []
  dashes_fault h waiting word e = ap (λ o. other_fault s o word h) (no_sub waiting word)
      ∙ ap (λ b. cond b [] (flag_word_fault c false (long_of word) word h)) e

  dashes_met : (h : Held) (waiting : Waiting) (position : ℕ) (word : Text)
      → bytes_eq word dashes ≡ true
      → word_met c [] false waiting position word h ≡ (h, trailing position)
  dashes_met h waiting position word e =
      ap (λ o. subcommand_or_other c o waiting position word h) (no_sub waiting word)
      ∙ ap (λ b. cond b (h, trailing position) (long_or_other c waiting word (long_of word) h)) e

  -- the dashes alone make no fault
  pub dashes_turn : (h : Held) (waiting : Waiting) (position : ℕ) (word : Text)
      → bytes_eq word dashes ≡ true → turn_fault s [] (at h waiting position false) word ≡ []
  dashes_turn h waiting position word e = turn_by h waiting position false word [] (h, trailing position)
      (dashes_fault h waiting word e) (dashes_met h waiting position word e)

  -- behind the dashes alone each word is a plain one
  pub dashes_walk : (h : Held) (waiting : Waiting) (position : ℕ) (word : Text)
      → bytes_eq word dashes ≡ true
      → walked c [] (at h waiting position false) word ≡ at h waiting position true
  dashes_walk h waiting position word e =
      walked_by h waiting position false word (h, trailing position) (dashes_met h waiting position word e)

  -- a long option
  abbrev pub long_after : Waiting → Text → Option Text → Held → Option Rule → Held × Step
  long_after waiting word v h r = after_flag c waiting word (long_met c r v h).0 (long_met c r v h).1

  long_word_fault : (h : Held) (waiting : Waiting) (word text : Text) (v : Option Text)
      (found : Option Named) → behind_dashes word ≡ Some text → value_in text ≡ v
      → named (name_in text) options ≡ found
      → word_fault s [] false waiting word h ≡ long_fault c false (option_map rule_for found) v h
  long_word_fault h waiting word text v found e f g =
      ap (λ o. other_fault s o word h) (no_sub waiting word)
      ∙ ap (λ b. cond b [] (flag_word_fault c false (long_of word) word h)) (not_dashes word text e)
      ∙ ap (λ l. flag_word_fault c false l word h) (long_is word text e).0
      ∙ ap (λ r. long_fault c false r (value_in text) h) (by_long options places (name_in text))
      ∙ ap₂ (λ r x. long_fault c false (option_map rule_for r) x h) g f

  long_word_met : (h : Held) (waiting : Waiting) (position : ℕ) (word text : Text) (v : Option Text)
      (found : Option Named) → behind_dashes word ≡ Some text → value_in text ≡ v
      → named (name_in text) options ≡ found
      → word_met c [] false waiting position word h
      ≡ long_after waiting word v h (option_map rule_for found)
  long_word_met h waiting position word text v found e f g =
      ap (λ o. subcommand_or_other c o waiting position word h) (no_sub waiting word)
      ∙ ap (λ b. cond b (h, trailing position) (long_or_other c waiting word (long_of word) h))
      (not_dashes word text e)
      ∙ ap (λ l. long_or_other c waiting word l h) (long_is word text e).0
      ∙ ap (λ r. long_after waiting word (value_in text) h r) (by_long options places (name_in text))
      ∙ ap₂ (λ r x. long_after waiting word x h (option_map rule_for r)) g f

  -- a word with dashes has the fault of the option that it names, or of the step behind it
  pub long_turn : (h : Held) (waiting : Waiting) (position : ℕ) (word text : Text) (v : Option Text)
      (found : Option Named) → behind_dashes word ≡ Some text → value_in text ≡ v
      → named (name_in text) options ≡ found
      → turn_fault s [] (at h waiting position false) word
      ≡ or_else (long_fault c false (option_map rule_for found) v h)
      (step_fault s position (long_after waiting word v h (option_map rule_for found)).0
      (long_after waiting word v h (option_map rule_for found)).1)
  long_turn h waiting position word text v found e f g =
      turn_by h waiting position false word _ _ (long_word_fault h waiting word text v found e f g)
      (long_word_met h waiting position word text v found e f g)

  -- a word with dashes leads where the option that it names does
  pub long_walk : (h : Held) (waiting : Waiting) (position : ℕ) (word text : Text) (v : Option Text)
      (found : Option Named) → behind_dashes word ≡ Some text → value_in text ≡ v
      → named (name_in text) options ≡ found
      → walked c [] (at h waiting position false) word
      ≡ after_step c word (at h waiting position false)
      (long_after waiting word v h (option_map rule_for found)).0
      (long_after waiting word v h (option_map rule_for found)).1
  long_walk h waiting position word text v found e f g =
      walked_by h waiting position false word _ (long_word_met h waiting position word text v found e f g)

  -- a short option: there is none
  short_fails : (h : Held) (y : ℕ) (rest : Text) (k : ℕ) → slice_get (chars (y ∷ rest)) 0 ≡ Some k
      → h.skip ≡ 0 → Fails (bundle_fault c false (y ∷ rest) h)
  unfolding flags_fault
  short_fails h y rest k e z =
      let g : Held = record h { skip = 0 } in
      let less : Text = drop (length (encode_utf8 k)) (y ∷ rest) in
      fails_as _ _
      (ap₂ (λ o n. bundle_step_fault c false o (y ∷ rest) n g (flags_fault c false (length rest))) e z
      ∙ ap (λ a. short_fault c false a less g (flags_fault c false (length rest) less 0))
      (by_short options places k))
      (some_kind _ _)

  short_word_fails : (h : Held) (waiting : Waiting) (word : Text) → behind_dashes word ≡ None
      → bytes_eq word dashes ≡ false → is_dashed word ≡ true → IsUtf8 word → h.skip ≡ 0
      → Fails (word_fault s [] false waiting word h)
  short_word_fails h waiting word e d i u z =
      let w = short_is word e d i in
      let k = some_char w.0 w.1 (subst IsUtf8 w.3 u) in
      fails_as _ _
      (ap (λ o. other_fault s o word h) (no_sub waiting word)
      ∙ ap (λ b. cond b [] (flag_word_fault c false (long_of word) word h)) d
      ∙ ap (λ l. flag_word_fault c false l word h) (not_long word e)
      ∙ ap (λ o. option_map_or (λ flags. bundle_fault c false flags h) o []) w.2)
      (short_fails h w.0 w.1 k.0 k.1 z)

  -- a long option fails where what is held does
  pub long_fails : (h : Held) (found : Option Named) (v : Option Text)
      → Fails (settle_fault c false h) → Fails (long_fault c false (option_map rule_for found) v h)
  long_fails h None v f = some_kind _ _
  long_fails h (Some (valued n)) (Some x) f = fails_first _ _ f
  long_fails h (Some (valued n)) None f = f
  long_fails h (Some (flag n)) (Some x) f = some_kind _ _
  long_fails h (Some (flag n)) None f = fails_first _ _ f

  -- so does each word with a dash
  pub dashed_fails : (h : Held) (waiting : Waiting) (position : ℕ) (word : Text)
      → is_dashed word ≡ true → bytes_eq word dashes ≡ false → IsUtf8 word → h.skip ≡ 0
      → Fails (settle_fault c false h) → Fails (turn_fault s [] (at h waiting position false) word)
  dashed_fails h waiting position word i d u z f = go (behind_dashes word) refl
    where
      go : (o : Option Text) → behind_dashes word ≡ o
          → Fails (turn_fault s [] (at h waiting position false) word)
      go (Some text) e = fails_as _ _
          (long_turn h waiting position word text (value_in text) (named (name_in text) options) e refl refl)
          (fails_first _ _ (long_fails h (named (name_in text) options) (value_in text) f))
      go None e = fails_first (word_fault s [] false waiting word h) _
          (short_word_fails h waiting word e d i u z)

  -- a word with one dash fails, whatever is held
  pub one_dash_fails : (h : Held) (waiting : Waiting) (position : ℕ) (word : Text)
      → behind_dashes word ≡ None → bytes_eq word dashes ≡ false → is_dashed word ≡ true → IsUtf8 word
      → h.skip ≡ 0 → Fails (turn_fault s [] (at h waiting position false) word)
  one_dash_fails h waiting position word e d i u z =
      fails_first (word_fault s [] false waiting word h) _ (short_word_fails h waiting word e d i u z)

  -- a word without a dash
  pub plain_fault : (h : Held) (waiting : Waiting) (word : Text) → is_dashed word ≡ false
      → word_fault s [] false waiting word h ≡ []
  plain_fault h waiting word i =
      let n = not_behind word i in
      ap (λ o. other_fault s o word h) (no_sub waiting word)
      ∙ ap (λ b. cond b [] (flag_word_fault c false (long_of word) word h)) n.1
      ∙ ap (λ l. flag_word_fault c false l word h) (not_long word n.0)
      ∙ ap (λ o. option_map_or (λ flags. bundle_fault c false flags h) o []) (not_short word i)

  -- a word without dashes is met as a plain one
  pub plain_met : (h : Held) (waiting : Waiting) (position : ℕ) (word : Text)
      → is_dashed word ≡ false
      → word_met c [] false waiting position word h ≡ plain_word c waiting word h
  plain_met h waiting position word i =
      let n = not_behind word i in
      ap (λ o. subcommand_or_other c o waiting position word h) (no_sub waiting word)
      ∙ ap (λ b. cond b (h, trailing position) (long_or_other c waiting word (long_of word) h)) n.1
      ∙ ap (λ l. long_or_other c waiting word l h) (not_long word n.0)
      ∙ ap (λ o. short_or_plain c waiting word o h) (not_short word i)

  -- a word without dashes has the fault of the step behind it
  pub plain_turn : (h : Held) (waiting : Waiting) (position : ℕ) (word : Text)
      → is_dashed word ≡ false → turn_fault s [] (at h waiting position false) word
      ≡ step_fault s position (plain_word c waiting word h).0 (plain_word c waiting word h).1
  plain_turn h waiting position word i = turn_by h waiting position false word [] (plain_word c waiting word h)
      (plain_fault h waiting word i) (plain_met h waiting position word i)

  -- a word without dashes leads where a plain one does
  pub plain_walk : (h : Held) (waiting : Waiting) (position : ℕ) (word : Text)
      → is_dashed word ≡ false → walked c [] (at h waiting position false) word
      ≡ after_step c word (at h waiting position false) (plain_word c waiting word h).0
      (plain_word c waiting word h).1
  plain_walk h waiting position word i =
      walked_by h waiting position false word _ (plain_met h waiting position word i)

  -- a value of a place
  and_false : (b : Bool) → (b && false) ≡ false
  and_false true = refl
  and_false false = refl

  or_false : (b : Bool) → (b || false) ≡ b
  or_false true = refl
  or_false false = refl

  positional_is : (number : ℕ) (place : Text) (h : Held)
      → positional_fault c false (place_rule number place) h ≡ settle_fault c false h
  positional_is number place h = ap (λ b. cond b [] (settle_fault c false h))
      (and_false (is_pending (place_rule number place) h.pending))

  held_is : (number : ℕ) (place : Text) (h : Held) (word : Text)
      → positional_held c (place_rule number place) word h ≡ pushed place word (settled c h)
  held_is number place h word = ap (λ b. pushed place word (cond b h (settled c h)))
      (and_false (is_pending (place_rule number place) h.pending))

  -- the fault of a word that stands alone, by what is found under the number of the next place
  fault_by : (h : Held) (position : ℕ) (o : Option Rule) → arg_by_index c position ≡ o
      → step_fault s position h value
      ≡ option_map_or (λ a. positional_fault c false a h) o (stray_fault s)
  fault_by h position o e = ap (λ o. option_map_or (λ a. positional_fault c false a h) o (stray_fault s)) e

  -- where what is held has a fault, so has a value behind it
  pub value_fails : (h : Held) (position : ℕ) → Fails (settle_fault c false h)
      → Fails (step_fault s position h value)
  value_fails h position f = go (any_place 1 places position)
    where
      go : (arg_by_index (place_rules 1 places) position ≡ None) ⊎ ((k : ℕ) × (place : Text)
          × (arg_by_index (place_rules 1 places) position ≡ Some (place_rule k place)))
          → Fails (step_fault s position h value)
      go (inl e) = fails_as _ _ (fault_by h position None (by_index options places position ∙ e)) (some_kind _ _)
      go (inr p) = fails_as _ _
          (fault_by h position (Some (place_rule p.0 p.1)) (by_index options places position ∙ p.2)
          ∙ positional_is p.0 p.1 h) f

  -- a word that stands alone is a fault where no place is left
  pub stray_fails : (h : Held) (position : ℕ) → arg_by_index c position ≡ None
      → Fails (step_fault s position h value)
  stray_fails h position e = fails_as _ _ (fault_by h position None e) (some_kind _ _)

  -- where a place is left it has no fault but that of what is held
  pub place_fault : (h : Held) (number : ℕ) (place : Text) → arg_by_index c number ≡ Some (place_rule number place)
      → step_fault s number h value ≡ settle_fault c false h
  place_fault h number place e =
      fault_by h number (Some (place_rule number place)) e ∙ positional_is number place h

  -- and is that place's value
  pub place_walk : (h : Held) (b : Bool) (number : ℕ) (place word : Text)
      → arg_by_index c number ≡ Some (place_rule number place) → min (number + 1) usize_max ≡ number + 1
      → word_met c [] b idle number word h ≡ (h, value)
      → walked c [] (at h idle number b) word ≡ at (pushed place word (settled c h)) idle (number + 1) b
  place_walk h b number place word e follows m =
      walked_by h idle number b word (h, value) m
      ∙ ap (λ o. to_positional c o word (at h idle number b) h) e
      ∙ ap₂ (λ g t. at g idle (min (number + 1) usize_max) t) (held_is number place h word) (or_false b)
      ∙ ap (λ k. at (pushed place word (settled c h)) idle k b) follows

-- The words of a command, read by the parse as they say.
use Rattle.std.proofs.Common.{◌≡◌, ◌∙◌, refl, sym, ap, ap₂, Bool, cond, true, false, ℕ, List, [], ◌∷◌, ◌++◌}
use Rattle.std.proofs.Common.{Option, Some, None, codes, ◌+◌}
use Rattle.std.specs.Prelude.{nat_lt, option_and_then}
use Rattle.std.specs.List.{fold}
use Rattle.std.specs.Str.{bytes_eq, IsUtf8}
use Rattle.std.proofs.lemmas.Slice.Eq.{bytes_eq-Decides}
use Rattle.clap.specs.Walk.{Held, Rule, Step, Waiting, Walk, idle, option, next, value}
use Rattle.clap.specs.Walk.{after_step, finished, has_row, option_word, pending_count}
use Rattle.clap.specs.Walk.{plain_word, pushed, reacted, settled, started, walked, with_values, without}
use Rattle.clap.specs.Walk.{word_met}
use Rattle.clap.specs.Simple.{Shape}
use Rattle.clap.specs.Kinds.{Kinds, or_else}
use Rattle.clap.specs.Faults.{check_fault, defaults_fault, settle_fault, step_fault, turn_fault, walk_fault}
use Rattle.clap.specs.declared.error.kind.ErrorKind.TheVariants as kind
use Rattle.clap.specs.declared.builder.value_parser.Reading.TheVariants.{AsWritten}
use Rattle.clap.specs.declared.parser.matches.ValueSource.TheVariants.{CommandLine}
use Rattle.trips_requests.specs.Words.{Text, Named, valued, flag, named, Said, is_said, and_said, placed}
use Rattle.trips_requests.specs.Words.{is_dashed, behind_dashes, name_in, value_in, goes_on, option_read}
use Rattle.trips_requests.specs.Words.{word_read, alone_read, words_read}
use Rattle.trips_words.specs.inside.Read.{rule_for, rules_for, shape_for}
use Rattle.trips_words.proofs.Rules.{option_by_id, renamed}
use Rattle.trips_words.proofs.Rows.{rows_for, has_said, put_said}
use Rattle.trips_words.proofs.Places.{Stands, moves_on, stands_by}
use Rattle.trips_words.proofs.Faults.{Fails, fails_as, fails_first, fails_second, some_kind, else_assoc}
use Rattle.trips_words.proofs.Faults.{else_none, conflict, no_conflict, some_conflict}
use Rattle.trips_words.proofs.Dashes.{dashes}
use Rattle.trips_words.proofs.Settling.{Settles, WaitsFor, settle_is, settles_none, settles_one, settles_not}
use Rattle.trips_words.proofs.OneWord.{at, dashes_turn, dashes_walk, long_turn, long_walk, dashed_fails}
use Rattle.trips_words.proofs.OneWord.{one_dash_fails, plain_met, plain_turn, plain_walk, value_fails}
use Rattle.trips_words.proofs.OneWord.{stray_fails, place_fault, place_walk}
use Rattle.trips_words.proofs.Defaults.{no_defaults, no_check}

-- each word is text
abbrev pub AllTexts : List Text → Type 0
AllTexts [] = Unit {0}
AllTexts (word ∷ words) = IsUtf8 word × AllTexts words

-- what is held at the end of the words
abbrev pub end_of : List Named → List Text → Walk → List Text → Held
end_of options places w words = (fold (walked (rules_for options places) []) w words).held

-- the faults of the end of a parse, and of the words that are left before it
abbrev pub ending_fault : Text → List Named → List Text → Held → Kinds
ending_fault name options places h = or_else (settle_fault (rules_for options places) false h)
    (or_else (defaults_fault (settled (rules_for options places) h).rows (rules_for options places))
    (check_fault (shape_for name options places) (finished (rules_for options places) h) false))

-- the fault of the words that are left, or of the end behind them
abbrev pub rest_fault : Text → List Named → List Text → Walk → List Text → Kinds
rest_fault name options places w words = or_else (walk_fault (shape_for name options places) [] w words)
    (ending_fault name options places (end_of options places w words))

-- the parse tells what is said, and fails where nothing is
abbrev pub Told : List Named → List Text → Option Said → Kinds → Held → Type 0
Told options places None kinds h = Fails kinds
Told options places (Some said) kinds h =
    (kinds ≡ []) × ((settled (rules_for options places) h).rows ≡ rows_for said)

-- what a parse tells is told of the same fault and the same matches
pub told_as : (options : List Named) (places : List Text) (o : Option Said) (a b : Kinds) (h g : Held) → a ≡ b
    → h ≡ g → Told options places o b g → Told options places o a h
told_as options places None a b h g e q f = fails_as a b e f
told_as options places (Some said) a b h g e q f =
    (e ∙ f.0, ap (λ (x : Held). (settled (rules_for options places) x).rows) q ∙ f.1)

abbrev waiting_for : Option Text → Waiting
waiting_for None = idle
waiting_for (Some name) = option name

module _ (name : Text) (options : List Named) (places : List Text) where
  abbrev c : List Rule
  c = rules_for options places

  abbrev s : Shape
  s = shape_for name options places

  abbrev Rests : Option Said → Walk → List Text → Type 0
  Rests o w words = Told options places o (rest_fault name options places w words) (end_of options places w words)

  abbrev Ready : Option Text → Held → Said → Type 0
  Ready None h said = Settles options places h said
  Ready (Some n) h said = WaitsFor options h n said

  -- the words are read so from any place between two words
  abbrev pub Reads : List Text → Type 0
  Reads words = (left : List Text) (waits : Option Text) (said : Said) (h : Held) (position : ℕ)
      → Ready waits h said → Stands options places position left said
      → Rests (words_read options left waits said words) (at h (waiting_for waits) position false) words

  step_is : (w : Walk) (word : Text) (words : List Text) → rest_fault name options places w (word ∷ words)
      ≡ or_else (turn_fault s [] w word) (rest_fault name options places (walked c [] w word) words)
  unfolding walk_fault
  step_is w word words = else_assoc (turn_fault s [] w word) (walk_fault s [] (walked c [] w word) words)
      (ending_fault name options places (end_of options places (walked c [] w word) words))

  fail_turn : (w : Walk) (word : Text) (words : List Text) → Fails (turn_fault s [] w word)
      → Fails (rest_fault name options places w (word ∷ words))
  fail_turn w word words f = fails_as _ _ (step_is w word words) (fails_first (turn_fault s [] w word) _ f)

  fail_later : (w v : Walk) (word : Text) (words : List Text) → walked c [] w word ≡ v
      → Fails (rest_fault name options places v words) → Fails (rest_fault name options places w (word ∷ words))
  fail_later w v word words e f = fails_as _ _
      (step_is w word words ∙ ap (λ x. or_else (turn_fault s [] w word) (rest_fault name options places x words)) e)
      (fails_second (turn_fault s [] w word) _ f)

  pass_turn : (o : Option Said) (w v : Walk) (word : Text) (words : List Text)
      → turn_fault s [] w word ≡ [] → walked c [] w word ≡ v → Rests o v words → Rests o w (word ∷ words)
  pass_turn o w v word words e f t = told_as options places o _ _ _ _
      (step_is w word words ∙ ap₂ (λ k x. or_else k (rest_fault name options places x words)) e f)
      (ap (λ x. end_of options places x words) f) t

  end_fails : (w : Walk) → Fails (settle_fault c false w.held) → Fails (rest_fault name options places w [])
  unfolding walk_fault
  end_fails w f = fails_first (settle_fault c false w.held) _ f

  -- what is held fails, and stays -----------------------------------------------------------------

  trouble_files : (words : List Text) (h : Held) (waiting : Waiting) (position : ℕ)
      → Fails (settle_fault c false h) → Fails (rest_fault name options places (at h waiting position true) words)
  trouble_files [] h waiting position f = end_fails (at h waiting position true) f
  trouble_files (word ∷ words) h waiting position f =
      fail_turn (at h waiting position true) word words (value_fails name options places h position f)

  trouble : (words : List Text) → AllTexts words → (h : Held) (position : ℕ)
      → Fails (settle_fault c false h) → h.skip ≡ 0
      → Fails (rest_fault name options places (at h idle position false) words)
  trouble [] u h position f z = end_fails (at h idle position false) f
  trouble (word ∷ words) u h position f z = go (bytes_eq word dashes) refl
    where
      plain : (i : Bool) → is_dashed word ≡ i → bytes_eq word dashes ≡ false
          → Fails (rest_fault name options places (at h idle position false) (word ∷ words))
      plain true i d = fail_turn _ word words (dashed_fails name options places h idle position word i d u.0 z f)
      plain false i d = fail_turn _ word words
          (fails_as _ _ (plain_turn name options places h idle position word i)
          (value_fails name options places h position f))

      go : (d : Bool) → bytes_eq word dashes ≡ d
          → Fails (rest_fault name options places (at h idle position false) (word ∷ words))
      go true d = fail_later _ _ word words (dashes_walk name options places h idle position word d)
          (trouble_files words h idle position f)
      go false d = plain (is_dashed word) refl d

  -- the end ---------------------------------------------------------------------------------------

  ended : (w : Walk) (said : Said) → Settles options places w.held said → Rests (Some said) w []
  unfolding walk_fault
  ended w said set = (
    ap (λ k. or_else k (or_else (defaults_fault (settled c w.held).rows c)
        (check_fault s (finished c w.held) false))) set.fault
        ∙ ap (λ k. or_else k (check_fault s (finished c w.held) false))
        (no_defaults options places (settled c w.held).rows)
        ∙ no_check name options places (finished c w.held),
    set.rows,
  )

  -- a word that stands alone ----------------------------------------------------------------------

  place_once : (b : Bool) (word : Text) (words : List Text) (h : Held) (left : List Text) (said : Said)
      (position : ℕ) (rest : List Text → Said → Option Said) → Settles options places h said
      → Stands options places position left said
      → turn_fault s [] (at h idle position b) word ≡ step_fault s position h value
      → word_met c [] b idle position word h ≡ (h, value)
      → ((later : List Text) (more : Said) (g : Held) → Settles options places g more
      → Stands options places (position + 1) later more
      → Rests (rest later more) (at g idle (position + 1) b) words)
      → Rests (placed left word said rest) (at h idle position b) (word ∷ words)
  place_once b word words h [] said position rest set st turn met next_place =
      fail_turn (at h idle position b) word words
      (fails_as _ _ turn (stray_fails name options places h position st.has))
  place_once b word words h (place ∷ left) said position rest set st turn met next_place =
      let g : Held = pushed place word (settled c h) in
      let more : Said = said ++ (place, word) ∷ [] in
      pass_turn (rest left more) (at h idle position b) (at g idle (position + 1) b) word words
      (turn ∙ place_fault name options places h position place st.has.0.by_index ∙ set.fault)
      (place_walk name options places h b position place word st.has.0.by_index st.has.0.follows met)
      (next_place left more g
      (settles_one options places g place word None (Some position) said refl st.has.0.by_id set.rows set.skip
      st.unsaid.0)
      (moves_on options places position place left said word st))

  alone_are : (words : List Text) (left : List Text) (said : Said) (h : Held) (position : ℕ)
      → Settles options places h said → Stands options places position left said
      → Rests (alone_read left said words) (at h idle position true) words
  alone_are [] left said h position set st = ended (at h idle position true) said set
  alone_are (word ∷ words) left said h position set st =
      place_once true word words h left said position (λ later more. alone_read later more words) set st refl refl
      (λ later more g sg stg. alone_are words later more g (position + 1) sg stg)

  -- an option that is said at once ----------------------------------------------------------------

  said_once : (n x : Text) (word : Text) (words : List Text) (h g : Held) (left : List Text) (said : Said)
      (position : ℕ) → turn_fault s [] (at h idle position false) word
      ≡ or_else (or_else (settle_fault c false h) (conflict (has_row n (settled c h).rows))) []
      → walked c [] (at h idle position false) word ≡ at g idle position false
      → g.pending ≡ None
      → g.rows ≡ with_values n AsWritten CommandLine (x ∷ []) (without n (settled c h).rows)
      → g.skip ≡ h.skip → Settles options places h said
      → Stands options places position left (said ++ (n, x) ∷ []) → Reads words
      → Rests (goes_on (λ later waits more. words_read options later waits more words) left (and_said n x said))
      (at h idle position false) (word ∷ words)
  said_once n x word words h g left said position turn walk pend rows skip set st ih = go (is_said n said) refl
    where
      has : (d : Bool) → is_said n said ≡ d → has_row n (settled c h).rows ≡ d
      has d e = ap (has_row n) set.rows ∙ has_said said n ∙ e

      go : (d : Bool) → is_said n said ≡ d
          → Rests (goes_on (λ later waits more. words_read options later waits more words) left
          (cond d None (Some (said ++ (n, x) ∷ [])))) (at h idle position false) (word ∷ words)
      go true y = fail_turn (at h idle position false) word words (fails_as _ _ turn
          (fails_first _ [] (fails_second (settle_fault c false h) _ (some_conflict _ (has true y)))))
      go false m =
          let more : Said = said ++ (n, x) ∷ [] in
          pass_turn (words_read options left None more words) (at h idle position false)
          (at g idle position false) word words
          (turn ∙ ap₂ (λ a b. or_else (or_else a b) []) set.fault (no_conflict _ (has false m))) walk
          (ih left None more g position
          (settles_none options places g more pend
          (rows ∙ ap (λ rs. with_values n AsWritten CommandLine (x ∷ []) (without n rs)) set.rows
          ∙ put_said n x said m)
          (skip ∙ set.skip)) st)

  -- a word with two dashes ------------------------------------------------------------------------

  long_read : (word : Text) (words : List Text) (text : Text) (v : Option Text) (found : Option Named)
      (h : Held) (left : List Text) (said : Said) (position : ℕ) → behind_dashes word ≡ Some text
      → value_in text ≡ v → named (name_in text) options ≡ found → Settles options places h said
      → Stands options places position left said → Reads words
      → Rests (option_read found v left said (λ later waits more. words_read options later waits more words))
      (at h idle position false) (word ∷ words)
  long_read word words text v None h left said position e f g set st ih =
      fail_turn (at h idle position false) word words
      (fails_as _ _ (long_turn name options places h idle position word text v None e f g)
      (some_kind kind.UnknownArgument []))
  long_read word words text (Some x) (Some (flag n)) h left said position e f g set st ih =
      fail_turn (at h idle position false) word words
      (fails_as _ _ (long_turn name options places h idle position word text (Some x) (Some (flag n)) e f g)
      (some_kind kind.TooManyValues []))
  long_read word words text (Some x) (Some (valued n)) h left said position e f g set st ih =
      said_once n x word words h (reacted c (rule_for (valued n)) (x ∷ []) h) left said position
      (long_turn name options places h idle position word text (Some x) (Some (valued n)) e f g)
      (long_walk name options places h idle position word text (Some x) (Some (valued n)) e f g)
      refl refl refl set
      (stands_by options places position left said (name_in text) (valued n) x g st) ih
  long_read word words text None (Some (flag n)) h left said position e f g set st ih =
      said_once n (codes "true") word words h (reacted c (rule_for (flag n)) [] h) left said position
      (long_turn name options places h idle position word text None (Some (flag n)) e f g)
      (long_walk name options places h idle position word text None (Some (flag n)) e f g)
      refl refl refl set
      (stands_by options places position left said (name_in text) (flag n) (codes "true") g st) ih
  long_read word words text None (Some (valued n)) h left said position e f g set st ih =
      let k : Held = record (settled c h) { pending = Some (n, []) } in
      pass_turn (words_read options left (Some n) said words) (at h idle position false)
      (at k (option n) position false) word words
      (long_turn name options places h idle position word text None (Some (valued n)) e f g
      ∙ else_none (settle_fault c false h) ∙ set.fault)
      (long_walk name options places h idle position word text None (Some (valued n)) e f g)
      (ih left (Some n) said k position
      (record {
        known = renamed options (name_in text) (valued n) g;
        rows = set.rows;
        pending = refl;
        skip = set.skip;
      }) st)

  -- a word where nothing waits --------------------------------------------------------------------

  idle_is : (word : Text) (words : List Text) → IsUtf8 word → Reads words → (left : List Text) (said : Said)
      (h : Held) (position : ℕ) → Settles options places h said → Stands options places position left said
      → Rests (words_read options left None said (word ∷ words)) (at h idle position false) (word ∷ words)
  idle_is word words u ih left said h position set st = go (bytes_eq word dashes) refl
    where
      alone : (i : Bool) → is_dashed word ≡ i → behind_dashes word ≡ None → bytes_eq word dashes ≡ false
          → Rests (cond i None (placed left word said (λ later more. words_read options later None more words)))
          (at h idle position false) (word ∷ words)
      alone true i b d = fail_turn (at h idle position false) word words
          (one_dash_fails name options places h idle position word b d i u set.skip)
      alone false i b d = place_once false word words h left said position
          (λ later more. words_read options later None more words) set st
          (plain_turn name options places h idle position word i)
          (plain_met name options places h idle position word i)
          (λ later more g sg stg. ih later None more g (position + 1) sg stg)

      other : (o : Option Text) → behind_dashes word ≡ o → bytes_eq word dashes ≡ false
          → Rests (word_read options word o left said
          (λ later waits more. words_read options later waits more words))
          (at h idle position false) (word ∷ words)
      other (Some text) b d = long_read word words text (value_in text) (named (name_in text) options)
          h left said position b refl refl set st ih
      other None b d = alone (is_dashed word) refl b d

      go : (d : Bool) → bytes_eq word dashes ≡ d
          → Rests (cond d (alone_read left said words) (word_read options word (behind_dashes word) left said
          (λ later waits more. words_read options later waits more words)))
          (at h idle position false) (word ∷ words)
      go true d = pass_turn (alone_read left said words) (at h idle position false) (at h idle position true)
          word words (dashes_turn name options places h idle position word d)
          (dashes_walk name options places h idle position word d) (alone_are words left said h position set st)
      go false d = other (behind_dashes word) refl d

  -- a word for an option that waits ---------------------------------------------------------------

  waits_fail : (h : Held) (n : Text) (said : Said) → WaitsFor options h n said
      → Fails (settle_fault c false h)
  waits_fail h n said w = fails_as _ _
      (settle_is options places h n [] (rule_for (valued n)) w.pending
      (option_by_id options places n (valued n) w.known))
      (some_kind kind.InvalidValue [])

  same : (n : Text) → bytes_eq n n ≡ true
  same n = (bytes_eq-Decides n n).1 refl

  value_word : (h : Held) (n word : Text) (said : Said) → WaitsFor options h n said
      → plain_word c (option n) word h ≡ (pushed n word h, next idle)
  value_word h n word said w =
      let g : Held = pushed n word h in
      let a : Rule = rule_for (valued n) in
      let done : Option (Text × List Text) → Held × Step =
      λ q. (g, next (cond (nat_lt (pending_count a q) 1) (option n) idle)) in
      ap (λ o. ((option_word o n word h).0, next (option_word o n word h).1))
      (option_by_id options places n (valued n) w.known)
      ∙ ap (λ (q : Option (Text × List Text)). done (Some ((started n q).0, (started n q).1 ++ word ∷ [])))
      w.pending
      ∙ ap (λ b. (g, next (cond (nat_lt (cond b 1 0) 1) (option n) idle))) (same n)

  value_is : (n word : Text) (words : List Text) → IsUtf8 word → AllTexts words → Reads words
      → (left : List Text) (said : Said) (h : Held) (position : ℕ) → WaitsFor options h n said
      → Stands options places position left said
      → Rests (words_read options left (Some n) said (word ∷ words)) (at h (option n) position false)
      (word ∷ words)
  value_is n word words u us ih left said h position w st = go (is_dashed word) refl
    where
      dashed : (d : Bool) → bytes_eq word dashes ≡ d → is_dashed word ≡ true
          → Fails (rest_fault name options places (at h (option n) position false) (word ∷ words))
      dashed true d i = fail_later (at h (option n) position false) _ word words
          (dashes_walk name options places h (option n) position word d)
          (trouble_files words h (option n) position (waits_fail h n said w))
      dashed false d i = fail_turn (at h (option n) position false) word words
          (dashed_fails name options places h (option n) position word i d u w.skip (waits_fail h n said w))

      turned : is_dashed word ≡ false → turn_fault s [] (at h (option n) position false) word ≡ []
      turned i = plain_turn name options places h (option n) position word i
          ∙ ap (λ (m : Held × Step). step_fault s position m.0 m.1) (value_word h n word said w)

      walks : is_dashed word ≡ false → walked c [] (at h (option n) position false) word
          ≡ at (pushed n word h) idle position false
      walks i = plain_walk name options places h (option n) position word i
          ∙ ap (λ (m : Held × Step). after_step c word (at h (option n) position false) m.0 m.1)
          (value_word h n word said w)

      pend : (pushed n word h).pending ≡ Some (n, word ∷ [])
      pend = ap (λ (q : Option (Text × List Text)). Some ((started n q).0, (started n q).1 ++ word ∷ [])) w.pending

      once : (d : Bool) → is_said n said ≡ d → is_dashed word ≡ false
          → Rests (option_and_then (λ more. words_read options left None more words)
          (cond d None (Some (said ++ (n, word) ∷ [])))) (at h (option n) position false) (word ∷ words)
      once true y i = fail_later (at h (option n) position false) _ word words (walks i)
          (trouble words us (pushed n word h) position
          (settles_not options places (pushed n word h) n word (Some n) None said pend
          (option_by_id options places n (valued n) w.known) w.rows y) w.skip)
      once false m i =
          let more : Said = said ++ (n, word) ∷ [] in
          pass_turn (words_read options left None more words) (at h (option n) position false)
          (at (pushed n word h) idle position false) word words (turned i) (walks i)
          (ih left None more (pushed n word h) position
          (settles_one options places (pushed n word h) n word (Some n) None said pend
          (option_by_id options places n (valued n) w.known) w.rows w.skip m)
          (stands_by options places position left said n (valued n) word w.known st))

      go : (i : Bool) → is_dashed word ≡ i
          → Rests (cond i None (option_and_then (λ more. words_read options left None more words)
          (and_said n word said))) (at h (option n) position false) (word ∷ words)
      go true i = dashed (bytes_eq word dashes) refl i
      go false i = once (is_said n said) refl i

  -- all words -------------------------------------------------------------------------------------

  -- words that are text are read as they say
  pub words_are : (words : List Text) → AllTexts words → Reads words
  words_are [] u left None said h position set st = ended (at h idle position false) said set
  words_are [] u left (Some n) said h position w st =
      end_fails (at h (option n) position false) (waits_fail h n said w)
  words_are (word ∷ words) u left None said h position set st =
      idle_is word words u.0 (words_are words u.1) left said h position set st
  words_are (word ∷ words) u left (Some n) said h position w st =
      value_is n word words u.0 u.1 (words_are words u.1) left said h position w st

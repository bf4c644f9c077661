-- Each request has some blocks or steps, no more than may be asked for, and some turns of a loop in a block.
use Rattle.std.proofs.Common.{◌≡◌, ℕ, ◌+◌, ◌<◌, ◌≤◌, Bool, true, false, cond, nat_le, List, [], ◌∷◌, Option, None}
use Rattle.std.proofs.Common.{Some, IfSome, Result, Ok, Err, IfOk, refl, sym, subst, arith, option_map}
use Rattle.std.proofs.Common.{option_and_then}
use Rattle.std.specs.Prelude.{◌&&◌}
use Rattle.std.proofs.lemmas.Bool.Decides.{nat_tests}
use Rattle.trips_requests.specs.declared.commands.Verb.{Verb}
use Rattle.trips_requests.specs.declared.commands.Verb.TheVariants as verb
use Rattle.trips_requests.specs.declared.commands.Asked.{Asked}
use Rattle.trips_requests.specs.Limits.{most_count, most_drawn, most_recorded, most_turns, is_number, value_from}
use Rattle.trips_requests.specs.Limits.{number_to, number_within}
use Rattle.trips_requests.specs.Words.{Text, file_name, value_said, words_read}
use Rattle.trips_requests.specs.Options.{Options, count_of, is_c_name, options_of, options_said, places_of}
use Rattle.trips_requests.specs.Options.{later_said, second_said, takes_file, takes_options}
use Rattle.trips_requests.specs.Verbs.{verb_named}
use Rattle.trips_requests.specs.Requests.{Request, asked}
use Rattle.trips_requests.specs.inside.Requests.{request_seen}
use Rattle.trips_requests.specs.Requests.{events_said, frames_said, functions_said, most_said, place_said}
use Rattle.trips_requests.specs.Requests.{predictor_said, seed_said, unroll_said, weather_said}
use Rattle.trips_requests.specs.Requests.{request_counted, request_of_files, request_taken}
use Rattle.trips_requests.specs.Requests.{request_of_file, request_with, request_of, request_by}

-- a number from 1 to the greatest
abbrev IsCount : ℕ → ℕ → Type 0
IsCount most n = (0 < n) × (n ≤ most)

-- the request has some
abbrev HasSome : Request → Type 0
HasSome r = IsCount most_count r.most × (0 < r.unroll)

-- what holds of each value that may be given next holds of what is given
bind : {A : Type 0} (f : A → Option Request) (o : Option A) → ((a : A) → IfSome (f a) HasSome)
    → IfSome (option_and_then f o) HasSome
bind f None h = tt
bind f (Some a) h = h a

bind_with : (most : ℕ) (f : ℕ → Option Request) (o : Option ℕ) → IfSome o (IsCount most)
    → ((n : ℕ) → IsCount most n → IfSome (f n) HasSome) → IfSome (option_and_then f o) HasSome
bind_with most f None some h = tt
bind_with most f (Some n) some h = h n some

last : {A : Type 0} (f : A → Request) (o : Option A) → ((a : A) → HasSome (f a))
    → IfSome (option_map f o) HasSome
last f None h = tt
last f (Some a) h = h a

positive : (n : ℕ) → nat_le 1 n ≡ true → 0 < n
positive n e = grind (arith, nat_tests)

at_most : (n most : ℕ) → nat_le n most ≡ true → n ≤ most
at_most n most e = grind (arith, nat_tests)

some_number : (most : ℕ) (word : Text) → IfSome (number_to most word) (IsCount most)
some_number most word =
    go (is_number word) (nat_le 1 (value_from 0 word)) (nat_le (value_from 0 word) most) refl refl
  where
    go : (a b c : Bool) → nat_le 1 (value_from 0 word) ≡ b → nat_le (value_from 0 word) most ≡ c
        → IfSome (cond (a && (b && c)) (Some (value_from 0 word)) None) (IsCount most)
    go true true true e f = (positive (value_from 0 word) e, at_most (value_from 0 word) most f)
    go true true false e f = tt
    go true false true e f = tt
    go true false false e f = tt
    go false true true e f = tt
    go false true false e f = tt
    go false false true e f = tt
    go false false false e f = tt

some_default : (k : Verb) → IfSome (count_of k).1 (IsCount most_count)
some_default verb.Record = (omega arith, omega arith)
some_default verb.Save = tt
some_default verb.Draw = tt
some_default _ = (omega arith, omega arith)

wider : (most more : ℕ) (o : Option ℕ) → most ≤ more → IfSome o (IsCount most) → IfSome o (IsCount more)
wider most more None le h = tt
wider most more (Some n) le h = let up = h.1 in (h.0, omega (arith, up, le))

-- no command may be asked for more
counted_within : (most : ℕ) (word : Text) → most ≤ most_count → IfSome (number_to most word) (IsCount most_count)
counted_within most word le = wider most most_count (number_to most word) le (some_number most word)

-- the blocks up to one that may be drawn
some_drawn : (word : Text) → IfSome (option_map (λ n. n + 1) (number_within most_drawn word)) (IsCount most_count)
some_drawn word = go (is_number word) (nat_le (value_from 0 word) most_drawn) refl
  where
    go : (a b : Bool) → nat_le (value_from 0 word) most_drawn ≡ b
        → IfSome (option_map (λ n. n + 1) (cond (a && b) (Some (value_from 0 word)) None)) (IsCount most_count)
    go true true e = let up = at_most (value_from 0 word) most_drawn e in (omega arith, omega (arith, up))
    go true false e = tt
    go false true e = tt
    go false false e = tt

some_most : (k : Verb) (word : Option Text) → IfSome (most_said k word) (IsCount most_count)
some_most k None = some_default k
some_most verb.Draw (Some word) = some_drawn word
some_most verb.Record (Some word) = counted_within most_recorded word (omega arith)
some_most _ (Some word) = counted_within most_count word (omega arith)

turns_said : (file : Text) (word : Option Text) → IfSome (unroll_said file word) (IsCount most_turns)
turns_said file None = (omega arith, omega arith)
turns_said file (Some word) = go (is_c_name file)
  where
    go : (b : Bool) → IfSome (cond b (number_to most_turns word) None) (IsCount most_turns)
    go true = some_number most_turns word
    go false = tt

some_file : (k : Verb) (name : Text) (options : Options) (second third fourth : Option Text)
    → IfSome (request_of_file k name options second third fourth) HasSome
some_file k name options second third fourth =
    bind _ (functions_said k name) (λ functions.
    bind_with most_count _ (most_said k options.number) (some_most k options.number) (λ most some.
    bind _ (place_said name options.place) (λ place.
    bind_with most_turns _ (unroll_said name options.unroll) (turns_said name options.unroll) (λ unroll turns.
    bind _ (events_said options.stats options.events) (λ events.
    bind _ (seed_said options.seed) (λ seed.
    bind _ (predictor_said options.predictor) (λ predictor.
    bind _ (weather_said options.weather) (λ weather.
    last (request_counted k name options second third fourth functions most place unroll events seed predictor weather)
    (frames_said predictor options.frames) (λ frames. (some, turns.0))))))))))

some_taken : (k : Verb) (name : Text) (options : Options) → IfSome (request_taken k name options) HasSome
some_taken k name options = go (takes_file k name && takes_options k name options)
  where
    go : (b : Bool) → IfSome (cond b (request_of_files k name options) None) HasSome
    go true = bind _ (second_said k options.second) (λ second. bind _ (later_said k options.third)
        (λ third. bind (request_of_file k name options second third) (later_said k options.fourth)
        (some_file k name options second third)))
    go false = tt

some_with : (k : Verb) (file : Option Text) (options : Options) → IfSome (request_with k file options) HasSome
some_with k file options = bind _ file (λ name. some_taken k name options)

some_by : (words : List Text) (k : Verb) → IfSome (request_by words k) HasSome
some_by words k = bind (request_of k) (words_read (options_of k) (places_of k) None [] words)
    (λ said. some_with k (value_said file_name said) (options_said k said))

some_asked : (words : List Text) → IfSome (asked words) HasSome
some_asked [] = tt
some_asked (name ∷ words) = bind (request_by words) (verb_named name) (some_by words)

seen_some : (o : Option Asked) (r : Option Request) → option_map request_seen o ≡ r → IfSome r HasSome
    → IfSome o (λ a. HasSome (request_seen a))
seen_some None r e h = tt
seen_some (Some a) r e h = subst (λ (x : Option Request). IfSome x HasSome) (sym e) h

blocks_of : (o : Option Asked) → IfSome o (λ a. HasSome (request_seen a)) → IfSome o (λ a. 0 < a.most)
blocks_of None h = tt
blocks_of (Some a) h = h.0.0

few_of : (o : Option Asked) → IfSome o (λ a. HasSome (request_seen a)) → IfSome o (λ a. a.most ≤ most_count)
few_of None h = tt
few_of (Some a) h = h.0.1

turns_of : (o : Option Asked) → IfSome o (λ a. HasSome (request_seen a)) → IfSome o (λ a. 0 < a.unroll)
turns_of None h = tt
turns_of (Some a) h = h.1

-- a request of the code that words make has some blocks or steps
pub some_blocks : {E : Type 0} (words : List Text) (r : Result (Option Asked) E)
    → IfOk r (λ o. option_map request_seen o ≡ asked words) → IfOk r (λ o. IfSome o (λ a. 0 < a.most))
some_blocks words (Err e) h = tt
some_blocks words (Ok o) h = blocks_of o (seen_some o (asked words) h (some_asked words))

-- and no more than may be asked for
pub few_blocks : {E : Type 0} (words : List Text) (r : Result (Option Asked) E)
    → IfOk r (λ o. option_map request_seen o ≡ asked words) → IfOk r (λ o. IfSome o (λ a. a.most ≤ most_count))
few_blocks words (Err e) h = tt
few_blocks words (Ok o) h = few_of o (seen_some o (asked words) h (some_asked words))

-- and some turns of a loop in a block
pub some_turns : {E : Type 0} (words : List Text) (r : Result (Option Asked) E)
    → IfOk r (λ o. option_map request_seen o ≡ asked words) → IfOk r (λ o. IfSome o (λ a. 0 < a.unroll))
some_turns words (Err e) h = tt
some_turns words (Ok o) h = turns_of o (seen_some o (asked words) h (some_asked words))

-- What logs keep of notes, one after another.
use Rattle.std.proofs.Common.{◌≡◌, ◌<◌, ◌≤◌, ◌⊎◌, inl, inr, ℕ, ◌+◌, Bool, true, false, nat_lt, List, [], ◌∷◌, ◌++◌}
use Rattle.std.proofs.Common.{Option, Some, None, length, take, refl, sym, ap, ap₂, ◌∙◌, subst, arith, append_assoc}
use Rattle.std.proofs.Common.{length-append}
use Rattle.std.proofs.lemmas.Bool.{cases_lt, le-ltb, lt-ltb}
use Rattle.std.proofs.lemmas.List.{append-nil, length-take-le, take-append-le, take_all}
use Rattle.grid_events.specs.Notes.{Note}
use Rattle.grid_events.specs.Notes as note
use Rattle.grid_log.specs.declared.event.Event.{Event}
use Rattle.grid_log.specs.declared.event.Event.TheVariants as event
use Rattle.grid_log.specs.declared.event.Cause.{Cause}
use Rattle.grid_log.specs.declared.event.Cause.TheVariants as cause
use Rattle.grid_log.specs.declared.log.Entry.{Entry}
use Rattle.grid_log.specs.declared.log.Log.{Log}
use Rattle.grid_log.specs.Events.{cause_of, entries_of, event_of, first_of, note_of, why_of}
use Rattle.grid_log.specs.Logs.{Holds, IsOf, Keeps, Logged}

-- some notes for which no entry stands
abbrev pub Nothing : List Note → Type 0
Nothing es = (c : ℕ) → entries_of c es ≡ []

-- one entry more ---------------------------------------------------------------------------------

-- where a log has room it has been told no more than it holds
within : (limit : ℕ) (all : List Entry) → length (take limit all) < limit → length all < limit
within limit all room = go (cases_lt (length all) limit)
  where
    go : (length all < limit) ⊎ (limit ≤ length all) → length all < limit
    go (inl less) = less
    go (inr more) = let e = length-take-le limit all more in absurd (omega (arith, e, room))

-- where it has none it has been told as much as it may hold
beyond : (limit : ℕ) (all : List Entry) → limit ≤ length (take limit all) → limit ≤ length all
beyond limit all full = go (cases_lt (length all) limit)
  where
    go : (length all < limit) ⊎ (limit ≤ length all) → limit ≤ length all
    go (inr more) = more
    go (inl less) =
        let e : length (take limit all) ≡ length all = ap length (take_all limit all (omega (arith, less))) in
        omega (arith, e, full)

module _ (a b : Log) (x : Entry) (limit : b.limit ≡ a.limit) (lost : b.lost ≡ false → a.lost ≡ false) where
  -- an entry that finds room is held
  pub put_keeps : length a.entries.items < a.limit
      → (b.lost ≡ false → b.entries.items ≡ a.entries.items ++ (x ∷ [])) → b.more ≡ a.more → Keeps a (x ∷ []) b
  put_keeps room put more = record {
    limit = limit;
    behind = λ all is kept. holds all (is (lost kept)) (put kept);
  }
    where
      holds : (all : List Entry) → Holds all a → b.entries.items ≡ a.entries.items ++ (x ∷ [])
          → Holds (all ++ (x ∷ [])) b
      holds all h e =
          let some : length (take a.limit all) < a.limit =
          subst (λ (xs : List Entry). length xs < a.limit) h.first room in
          let less = within a.limit all some in
          let size = length-append all (x ∷ []) in
          let few : length (all ++ (x ∷ [])) ≤ a.limit = omega (arith, less, size) in
          record {
            first = e ∙ ap (λ xs. xs ++ (x ∷ [])) (h.first ∙ take_all a.limit all (omega (arith, less)))
                ∙ sym (take_all a.limit (all ++ (x ∷ [])) few)
                ∙ ap (λ n. take n (all ++ (x ∷ []))) (sym limit);
            more = more ∙ h.more ∙ le-ltb a.limit (length all) (omega (arith, less))
                ∙ sym (le-ltb a.limit (length (all ++ (x ∷ []))) few)
                ∙ ap (λ n. nat_lt n (length (all ++ (x ∷ [])))) (sym limit);
          }

  -- one that does not is told of
  pub full_keeps : a.limit ≤ length a.entries.items → b.entries.items ≡ a.entries.items → b.more ≡ true
      → Keeps a (x ∷ []) b
  full_keeps full same more = record { limit = limit; behind = λ all is kept. holds all (is (lost kept)) }
    where
      holds : (all : List Entry) → Holds all a → Holds (all ++ (x ∷ [])) b
      holds all h =
          let some : a.limit ≤ length (take a.limit all) =
          subst (λ (xs : List Entry). a.limit ≤ length xs) h.first full in
          let many = beyond a.limit all some in
          let size = length-append all (x ∷ []) in
          record {
            first = same ∙ h.first ∙ sym (take-append-le a.limit all (x ∷ []) many)
                ∙ ap (λ n. take n (all ++ (x ∷ []))) (sym limit);
            more = more ∙ sym (lt-ltb a.limit (length (all ++ (x ∷ []))) (omega (arith, many, size)))
                ∙ ap (λ n. nat_lt n (length (all ++ (x ∷ [])))) (sym limit);
          }

-- entries one after another ----------------------------------------------------------------------

pub keeps_none : (a : Log) → Keeps a [] a
keeps_none a = record { limit = refl; behind = λ all is. subst (λ xs. IsOf xs a) (sym (append-nil all)) is }

pub keeps_both : (a b c : Log) (xs ys : List Entry) → Keeps a xs b → Keeps b ys c → Keeps a (xs ++ ys) c
keeps_both a b c xs ys one two = record {
  limit = two.limit ∙ one.limit;
  behind = λ all is. subst (λ zs. IsOf zs c) (append_assoc all xs ys) (two.behind (all ++ xs) (one.behind all is));
}

-- notes ------------------------------------------------------------------------------------------

-- an entry before some, and others behind
first_joined : (c : ℕ) (o : Option Event) (xs ys zs : List Entry) → xs ≡ ys ++ zs
    → first_of c o xs ≡ first_of c o ys ++ zs
first_joined c None xs ys zs e = e
first_joined c (Some x) xs ys zs e = ap (λ (l : List Entry). record { cycle = c; event = x } ∷ l) e

-- the entries of two lists of notes
pub joined : (c : ℕ) (es fs : List Note) → entries_of c (es ++ fs) ≡ entries_of c es ++ entries_of c fs
joined c [] fs = refl
joined c (x ∷ es) fs =
    first_joined c (event_of x) (entries_of c (es ++ fs)) (entries_of c es) (entries_of c fs) (joined c es fs)

-- nothing is kept of notes for which no entry stands
pub logged_none : (a : Log) (es : List Note) → Nothing es → Logged a es a
logged_none a es none = record {
  cycle = refl;
  keeps = subst (λ xs. Keeps a xs a) (sym (none a.cycle)) (keeps_none a);
}

-- notes one after another
pub logged_both : (a b c : Log) (es fs : List Note) → Logged a es b → Logged b fs c → Logged a (es ++ fs) c
logged_both a b c es fs one two = record {
  cycle = two.cycle ∙ one.cycle;
  keeps = subst (λ xs. Keeps a xs c) (sym (joined a.cycle es fs))
      (keeps_both a b c (entries_of a.cycle es) (entries_of a.cycle fs) one.keeps
      (subst (λ n. Keeps b (entries_of n fs) c) one.cycle two.keeps));
}

-- notes for which the same entries stand
pub logged_same : (a b : Log) (es fs : List Note) → ((c : ℕ) → entries_of c es ≡ entries_of c fs) → Logged a es b
    → Logged a fs b
logged_same a b es fs same logged = record {
  cycle = logged.cycle;
  keeps = subst (λ xs. Keeps a xs b) (same a.cycle) logged.keeps;
}

-- a note before others of which nothing is kept
pub logged_first : (a b : Log) (x : Note) (es : List Note) → Nothing es → Logged a (x ∷ []) b → Logged a (x ∷ es) b
logged_first a b x es none one = logged_both a b b (x ∷ []) es one (logged_none b es none)

-- an event of a cycle -----------------------------------------------------------------------------

causes : (k : Cause) → cause_of (why_of k) ≡ k
causes cause.Violation = refl
causes cause.WrongExit = refl
causes cause.End = refl

-- an event stands for its note
pub stands : (e : Event) → event_of (note_of e) ≡ Some e
stands (event.Begins k careful) = refl
stands (event.Predicts n k) = refl
stands (event.GivesUp k) = refl
stands (event.Fetches n k) = refl
stands (event.Reads bank n r) = refl
stands (event.Fires tile n s op) = refl
stands (event.Delivers n p) = refl
stands (event.Loads tile n m) = refl
stands (event.Stores tile n m null) = refl
stands (event.Leaves n k) = refl
stands (event.Seals n) = refl
stands (event.Commits n k) = refl
stands (event.Traps n k) = refl
stands (event.Flushes n k) = ap (λ (x : Cause). Some (event.Flushes n x)) (causes k)

-- so its entry is kept where the log keeps its note
pub logged_event : (a b : Log) (e : Event) → b.cycle ≡ a.cycle
    → Keeps a (record { cycle = a.cycle; event = e } ∷ []) b → Logged a (note_of e ∷ []) b
logged_event a b e same keeps = record {
  cycle = same;
  keeps = subst (λ xs. Keeps a xs b) (sym (ap (λ o. first_of a.cycle o []) (stands e))) keeps;
}

-- Where the fault of a token list stands that is not accepted; for any relation that says what spells a
-- whole text.
use Rattle.std.specs.Prelude.{◌≡◌, ℕ, Bool, true, false, [], ◌∷◌, ◌++◌, suc, ◌||◌, nat_le, length}
use Rattle.c_tree.specs.declared.token.Lexeme.{Lexeme}
use Rattle.c_grammar.specs.Tokens.{Tokens, May}
use Rattle.c_grammar.specs.Accepted.{Rel}

-- no token before the list opens a depth beyond m
abbrev pub before : ℕ → Tokens → May
before m tail = λ q d. nat_le (length q) (length tail) || nat_le d m

-- no token before the one that stands before the list does
abbrev pub late : ℕ → Tokens → May
late m rest = λ q d. nat_le (length q) (suc (length rest)) || nat_le d m

-- any token may open any depth
abbrev pub any_depth : May
any_depth = λ q d. true

module _ {X : Type 0} (R : Rel X) where
  -- some list of the grammar, of any depth and length, begins with the front
  abbrev pub Starts : Tokens → Type 0
  Starts front = (rest : Tokens) × (x : X) × R any_depth x (front ++ rest) []

  -- some list does, in which no token of the front opens a depth beyond m
  abbrev pub StartsWithin : ℕ → Tokens → Type 0
  StartsWithin m front = (rest : Tokens) × (x : X) × R (before m rest) x (front ++ rest) []

  -- some list does, in which no token of the front but the last one does
  abbrev pub StartsBut : ℕ → Tokens → Lexeme → Type 0
  StartsBut m front t = (rest : Tokens) × (x : X) × R (late m rest) x (front ++ t ∷ rest) []

  -- some list begins with the tokens, in which none of them but maybe the last one does
  abbrev pub StartsLate : ℕ → Tokens → Type 0
  StartsLate m tokens = (rest : Tokens) × (x : X) × R (late m rest) x (tokens ++ rest) []

  -- the first token with which the tokens do not start
  pub record SyntaxAt (m : ℕ) (tokens front : Tokens) (t : Lexeme) (back : Tokens) : Type 0 where
    pub split : tokens ≡ front ++ t ∷ back
    -- up to it some list of the grammar begins so, and no depth is beyond m
    pub before_it : StartsWithin m front
    -- not at any depth
    pub with_it : Starts (front ++ t ∷ []) → ⊥

  -- the tokens start, and only end too early
  pub record EndsEarly (m : ℕ) (tokens : Tokens) : Type 0 where
    -- in some list of the grammar, of which more would follow
    pub starts : StartsLate m tokens
    -- they are no whole list of it
    pub is_none : (x : X) → R any_depth x tokens [] → ⊥

  -- the first token that opens a depth beyond m, in every list that begins so
  pub record DeepAt (m : ℕ) (tokens front : Tokens) (t : Lexeme) (back : Tokens) : Type 0 where
    pub split : tokens ≡ front ++ t ∷ back
    -- some list goes on with it, where it alone may open that depth
    pub but_for_it : StartsBut m front t
    -- in no list that begins so is it within m
    pub with_it : StartsWithin m (front ++ t ∷ []) → ⊥
    -- a last token of that kind only ends the text too early
    pub not_early : EndsEarly m tokens → ⊥

  -- what a stop says: whether the depth is at fault, and the tokens from it on
  abbrev pub FaultAt : ℕ → Tokens → Bool → Tokens → Type 0
  FaultAt m tokens false [] = EndsEarly m tokens
  FaultAt m tokens false (t ∷ back) = (front : Tokens) × SyntaxAt m tokens front t back
  FaultAt m tokens true [] = ⊥
  FaultAt m tokens true (t ∷ back) = (front : Tokens) × DeepAt m tokens front t back

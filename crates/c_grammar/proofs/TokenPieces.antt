-- Pieces that are one token: a mark, a word, a name.
use Rattle.std.proofs.Common.{◌≡◌, ℕ, ◌≤◌, List, [], ◌∷◌, length, Ok, refl, subst, arith}
use Rattle.c_tree.specs.declared.token.Form.{Form}
use Rattle.c_tree.specs.declared.token.Form.TheVariants as form
use Rattle.c_tree.specs.declared.token.Mark.{Mark}
use Rattle.c_tree.specs.declared.token.Key.{Key}
use Rattle.c_grammar.specs.Tokens.{Tokens, token, punct, word, named}
use Rattle.c_grammar.specs.inside.Parsing.{syntax, tail, offset_of, is_next, is_word, expect}
use Rattle.c_grammar.specs.inside.Parsing.{expect_keyword, name_by, name_of}
use Rattle.c_grammar.proofs.Numbers.{mark_self, key_self}
use Rattle.c_grammar.proofs.Agree.{split_if, if_true, next_is, word_is, stay, one, place, Tied}
use Rattle.c_grammar.proofs.Agree.{head_step, Lands, good, past}
use Rattle.c_grammar.proofs.Pieces.{Rel, stuck, read, Sound, always, any, same_tree, Piece}

-- the spelling of a mark, at its offset
abbrev pub Is : Mark → Rel ℕ
Is k may l f t = f ≡ punct l k ∷ t

-- A punctuator is read where it stands, and where none stands the fault is there.
pub mark_piece : (k : Mark) (m : ℕ) → Piece same_tree (Is k) any always always
    (λ t. punct 0 k ∷ t) m (expect k)
mark_piece k m =
    record {
      grow = λ t. omega arith;
      least = λ may t fr fr'. (0, refl);
      sound = λ ts h.
          split_if (Sound same_tree (Is k) always m ts) (is_next k ts) _ _
          (λ e. read (offset_of ts) (tail ts)
          (record {
            put = λ u. punct (offset_of ts) k ∷ u;
            way = one _;
            is = next_is k ts e;
            again = λ may w u. refl;
          }) tt)
          (λ e. stuck _ (record {
            put = λ u. u;
            way = stay;
            is = refl;
            more = λ u. punct 0 k ∷ u;
            grows = λ u. omega arith;
            held = tt;
            completes = λ u. (0, refl);
          }));
      complete = λ cut g g' may l f' t' r e f tied.
          head_step cut g g' (λ u. Lands cut g g' may m (expect k u) (λ to. Ok (l, to)) t')
          (subst (λ (u : Tokens). Tied cut g g' f u) r tied)
          (λ v tv. good v tv (if_true _ _ _ (mark_self k)))
          (λ c. past c (record { le = at_cut l g }));
    }
  where
    at_cut : (l : ℕ) (g : Tokens) → length (place (expect k (punct l k ∷ g))) ≤ length g
    at_cut l g = rw (mark_self k) (omega arith)

-- the spelling of a keyword, at its offset
abbrev pub IsWord : Key → Rel ℕ
IsWord k may l f t = f ≡ word l k ∷ t

-- A keyword is read where it stands, and where none stands the fault is there.
pub word_piece : (k : Key) (m : ℕ) → Piece same_tree (IsWord k) any always always
    (λ t. word 0 k ∷ t) m (expect_keyword k)
word_piece k m =
    record {
      grow = λ t. omega arith;
      least = λ may t fr fr'. (0, refl);
      sound = λ ts h.
          split_if (Sound same_tree (IsWord k) always m ts) (is_word k ts) _ _
          (λ e. read (offset_of ts) (tail ts)
          (record {
            put = λ u. word (offset_of ts) k ∷ u;
            way = one _;
            is = word_is k ts e;
            again = λ may w u. refl;
          }) tt)
          (λ e. stuck _ (record {
            put = λ u. u;
            way = stay;
            is = refl;
            more = λ u. word 0 k ∷ u;
            grows = λ u. omega arith;
            held = tt;
            completes = λ u. (0, refl);
          }));
      complete = λ cut g g' may l f' t' r e f tied.
          head_step cut g g' (λ u. Lands cut g g' may m (expect_keyword k u) (λ to. Ok (l, to)) t')
          (subst (λ (u : Tokens). Tied cut g g' f u) r tied)
          (λ v tv. good v tv (if_true _ _ _ (key_self k)))
          (λ c. past c (record { le = at_cut l g }));
    }
  where
    at_cut : (l : ℕ) (g : Tokens) → length (place (expect_keyword k (word l k ∷ g))) ≤ length g
    at_cut l g = rw (key_self k) (omega arith)

-- the spelling of a name, with its offset
abbrev pub Named : Rel (ℕ × List ℕ)
Named may n f t = f ≡ named n.0 n.1 ∷ t

-- some tokens behind a name
abbrev pub name_first : Tokens → Tokens
name_first t = named 0 (120 ∷ []) ∷ t

-- A name is read where one stands, and where none stands the fault is there.
pub name_piece : (m : ℕ) → Piece same_tree Named any always always name_first m name_of
name_piece m =
    record {
      grow = λ t. omega arith;
      least = λ may t fr fr'. ((0, 120 ∷ []), refl);
      sound = λ ts h. sound ts;
      complete = λ cut g g' may n f' t' r e f tied.
          head_step cut g g' (λ u. Lands cut g g' may m (name_of u) (λ to. Ok (n, to)) t')
          (subst (λ (u : Tokens). Tied cut g g' f u) r tied)
          (λ v tv. good v tv refl) (λ c. past c (record { le = omega arith }));
    }
  where
    wanted : (ts : Tokens) → Sound same_tree Named always m ts (syntax ts)
    wanted ts = stuck _ (record {
      put = λ u. u;
      way = stay;
      is = refl;
      more = name_first;
      grows = λ u. omega arith;
      held = tt;
      completes = λ u. ((0, 120 ∷ []), refl);
    })

    by : (l : ℕ) (f : Form) (ts : Tokens)
        → Sound same_tree Named always m (token l f ∷ ts) (name_by l f (token l f ∷ ts))
    by l (form.Name w) ts = read (l, w) ts
        (record { put = λ u. named l w ∷ u; way = one _; is = refl; again = λ may w' u. refl }) tt
    by l _ ts = wanted _

    sound : (ts : Tokens) → Sound same_tree Named always m ts (name_of ts)
    sound [] = wanted []
    sound (t ∷ ts) = by t.offset t.form ts

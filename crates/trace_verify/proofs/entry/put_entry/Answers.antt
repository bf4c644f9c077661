use Rattle.std.proofs.Common.{◌≡◌, ℕ, ◌++◌, ◌∷◌, [], List, get_or, ap, sym, subst, ◌∙◌, append_assoc, Option}
use Rattle.std.specs.Prelude.{None}
use Rattle.std.proofs.lemmas.Result.{on_ok_weaker}
use Rattle.byteorder.specs.Endian.{big_bytes}
use Rattle.trips_isa.specs.declared.block.Inst.{Inst}
use Rattle.trace_verify.specs.Spelling.{Listed, listed_from, listed_by, listed_bytes, tokens_in}
use Rattle.trace_verify.proofs.Listing.{told_listed}
use Rattle.trace_verify.proofs.entry.put_entry.Goals as goal

pub returns : goal.returns
returns c = record {
  ok = λ s told. on_ok_weaker c.put_slots.result (λ e. e
      ∙ ap (λ (xs : List ℕ). xs ++ listed_bytes listing) (c.in_ok-push.ensures.items
      ∙ ap (λ (xs : List ℕ). xs ++ c.args.exit ∷ []) c.in_ok-put_word.ensures.ok)
      ∙ append_assoc (c.args.out.now.items ++ big_bytes 4 c.args.number) (c.args.exit ∷ []) (listed_bytes listing)
      ∙ append_assoc c.args.out.now.items (big_bytes 4 c.args.number) (c.args.exit ∷ listed_bytes listing)
      ∙ ap (λ (ls : List Listed). c.args.out.now.items ++ (big_bytes 4 c.args.number ++
      (c.args.exit ∷ listed_bytes ls)))
      (ap (λ (is : List (Option Inst)). listed_from (λ j. get_or c.args.tokens.now j None)
      (λ j. get_or c.args.marks.now j 0) 0 is) c.as_slice.ensures.value
      ∙ told_listed c.args.block.now s c.args.tokens.now c.args.marks.now c.args.exit told))
      c.put_slots.ensures.ok;
}
  where
    listing : List Listed
    listing = listed_from (λ j. get_or c.args.tokens.now j None)
        (λ j. get_or c.args.marks.now j 0) 0 c.as_slice.result.now

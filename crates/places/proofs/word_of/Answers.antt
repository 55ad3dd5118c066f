use mir.Syntax.{w8}
use native.Mathlib.Omega.{arith}
use borrow.Author.Rules.{elem_Fits}
use Rattle.places.specs.Words.{word_of, word_by}
use Rattle.places.proofs.word_of.Goals as goal

pub returns : goal.returns
unfolding word_of word_by
returns c =
    let g = c.well_formed.0 in
    record {
      value = omega arith;
      places = record {
        size = g.1.0.1;
        bytes = λ i. (elem_Fits w8 w8 c.args.a g.0 i
            g.1.1 tt).fits;
      };
    }

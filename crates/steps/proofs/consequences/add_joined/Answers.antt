-- What the rules of two premises answer is added, or nothing.
use mathlib.Core.Path.{refl}
use Rattle.steps.proofs.consequences.add_joined.Goals as goal

pub returns-in_default : goal.returns-in_default
returns-in_default c = record {
  made = _;
  gives = c.in_default.ensures;
  missed = (refl, refl, refl);
  added = tt;
}

pub add-requires : goal.add-requires
add-requires c =
    let (hash, small) = c.hash-hash.ensures in
    (c.requires.2, c.requires.3, c.requires.4, hash, small, c.requires.5, c.requires.6)

pub returns : goal.returns
returns c = record {
  made = _;
  gives = c.in-Some.ensures;
  missed = tt;
  added = c.add.ensures;
}

use mathlib.Core.Path.{◌≡◌, ◌∙◌}
use mathlib.Core.List.{[], ◌∷◌, ◌++◌}
use lib.ListN.{length}
use borrow.Author.Rules.{rules}
use Rattle.index.specs.Index.{index_words}
use Rattle.index.proofs.IndexLaws.{with_links, links_size, links_long, ranks_long, doubt_both, entered}
use Rattle.index.proofs.enter.Goals as goal

pub returns : goal.returns
returns c = λ rs I e.
    let s = c.args in
    let size : length s.index.now ≡ index_words = search rules in
    let links = c.link.new.links in
    let ranks = c.place.new.ranks in
    let p = c.link.auto.links ∙ links_long s.index.now size in
    let q = c.place.auto.ranks ∙ ranks_long (with_links s.index.now links)
    (links_size s.index.now links size p) in (
      entered s.keys.now s.index.now s.lists.now _ links ranks s.n s.h s.x rs I e c.requires.1
          c.list.ensures c.requires.2 c.link.ensures
          (c.place.ensures rs (rs ++ (s.x ∷ []))),
      doubt_both s.index.now links ranks size p q,
    )

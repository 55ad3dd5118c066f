-- By the word of the item; where it has none, place by place.
use Prim.Native.Nat.{ℕ}
use mathlib.Core.Path.{◌≡◌, refl, ap, ◌∙◌}
use lib.ListN.{get_or}
use Rattle.places.specs.Words.{places_of}
use Rattle.places.proofs.Reading.{places_packed}
use Rattle.keys.specs.Keys.{place_key}
use Rattle.pivots.proofs.Answers.{by_word, by_none, by_five, keys_from_lem}
use Rattle.pivots.proofs.keys_by.Goals as goal

pub returns-then-w-ne0 : goal.returns-then-w-ne0
returns-then-w-ne0 c =
    let word = c.word_for-w.ensures.0 in
    keys_from_lem _ _ _ _ _ _ _ refl _ word (by_word _ _ _ _ _ _ _ c.if-w-ne0.true c.image.ensures
    c.mix.ensures)

pub returns-then-u-eq0 : goal.returns-then-u-eq0
returns-then-u-eq0 c =
    let word = c.word_for-w.ensures.0 in
    keys_from_lem _ _ _ _ _ _ _ c.uses_of-u.ensures _ word (by_none _ _ _ _ _ c.if-w-ne0.false c.if-u-eq0.true)

pub returns : goal.returns
returns c =
    let packed = c.word_of-map.ensures in
    let by : (a b : ℕ) → a ≡ get_or (places_of c.word_of-map.result) b 0 → a ≡ get_or c.args.x.nodes b
    0 = λ a b e. e ∙ ap (λ l. get_or l b 0) (places_packed packed) in
    let key : (x u n a b : ℕ) → x ≡ place_key u c.args.tag c.args.x.of n a → a ≡ get_or
    (places_of c.word_of-map.result) b 0 → x ≡ place_key u c.args.tag c.args.x.of n
    (get_or c.args.x.nodes b 0)
    = λ x u n a b e h. e ∙ ap (place_key u c.args.tag c.args.x.of n) (by a b h) in
    keys_from_lem _ _ _ _ _ _ _ c.uses_of-u.ensures _ c.word_for-w.ensures.0
    (by_five _ _ _ _ _ c.if-w-ne0.false packed.places.size _ _ _ _ _
    (key _ _ _ _ 0 c.place_key.ensures c.node_at.ensures.0)
    (key _ _ _ _ 1 c.place_key-2.ensures c.node_at-2.ensures.0)
    (key _ _ _ _ 2 c.place_key-3.ensures c.node_at-3.ensures.0)
    (key _ _ _ _ 3 c.place_key-4.ensures c.node_at-4.ensures.0)
    c.place_key-5.ensures)

-- The laws of images that specs/Image states.
use Prim.Native.Nat.{ℕ}
use mathlib.Core.Path.{◌≡◌, refl, ◌∙◌, ap}
use mathlib.Core.List.{List, ◌++◌}
use Rattle.store.specs.Layout.{image}
use Rattle.store.specs.Image.{IsImage}
use Rattle.store.specs.ImageLaws.{ImageLaws}
use Rattle.store.proofs.Lengths.{length_image, needed_most, bench_fits}
use Rattle.store.proofs.Decoding.{decode, decode_image, one_storable}
use Rattle.store.proofs.SoundStates.{storable}
use Rattle.store.proofs.ImageWords.{image_words}
use Rattle.store.proofs.StoredWords.{worded}

pub image_laws : ImageLaws
image_laws = record {
  image_length = length_image;
  needed_most = needed_most;
  bench_fits = bench_fits;
  one_state = λ s s' rest rest' sound sound' e. one_storable s s' rest rest' (storable s sound) (storable s' sound') e;
  image_words = image_words;
  stored_words = λ s rest sound words. worded s (storable s sound) rest (image s ++ rest) refl words;
}

-- the state of an image is the one that is read of its words
pub image_state : (l : List ℕ) (x : IsImage l) → decode l ≡ x.state
image_state l x = ap decode x.words ∙ decode_image x.state (storable x.state x.sound) x.rest

-- What tokens and stores stand for: functions of the site's number.
use Rattle.std.specs.Prelude.{ℕ, [], map, None, vec_items, Option, slice_index_or}
use Rattle.std.specs.Option.{option_map}
use Rattle.pages.specs.Sites.{Bytes}
use Rattle.bounded.specs.Texts.{text_of}
use Rattle.storage.specs.declared.stores.Stores.{Stores}
use Rattle.storage.specs.declared.tokens.Tokens.{Tokens}

-- Each site's token, if it has one.
abbrev pub tokens_of : Tokens → ℕ → Option Bytes
tokens_of t s = slice_index_or (map (option_map text_of) t.tokens) s None

-- What each site keeps.
abbrev pub stores_of : Stores → ℕ → Bytes
stores_of b s = slice_index_or (map text_of (vec_items b.texts)) s []

-- What a browser stands for: the browser's part of the promise's world.
use Rattle.std.specs.Prelude.{[], length, None}
use Rattle.machine.specs.Script.{State}
use Rattle.pages.specs.Sites.{Scripts}
use Rattle.pages.specs.Browser.{Part}
use Rattle.storage.specs.Storage.{tokens_of, stores_of}
use Rattle.storage.specs.Tables.{table_of}
use Rattle.windows.specs.Scripts.{by_machine}
use Rattle.browser.specs.declared.browser.Browser.{Browser}
use Rattle.browser.specs.Rows.{windows_of}
use Rattle.browser.specs.Wire.{SiteTable}

-- Windows, tokens and stores.
abbrev pub part_of : Browser → Part State
part_of b = record { windows = windows_of b.windows; tokens = tokens_of b.tokens; kept = stores_of b.stores }

-- The sites that the settings named.
abbrev pub sites_in : Browser → SiteTable
sites_in b = table_of b.table

-- The scripts of a browser's pages: run by the machine, where so many sites are named.
abbrev pub scripts_in : Browser → Scripts State
scripts_in b = by_machine (length (sites_in b))

-- No windows, no tokens, nothing kept.
abbrev pub nothing : Part State
nothing = record { windows = []; tokens = λ s. None; kept = λ s. [] }

-- The sizes of a searcher's caches.
use Rattle.script_form.specs.declared.config.Config.{Config}
use Rattle.searcher_core.specs.declared.sizes.CacheSizes.{CacheSizes}

abbrev pub sizes_of : Config → CacheSizes
sizes_of c = record {
  filters = c.filter_size;
  results = c.result_size;
  documents = c.document_size;
  window = c.window;
  most_docs = c.most_docs;
}

use Rattle.std.proofs.Common.{List, codes, sym, ap, ◌∙◌, arith}
use Rattle.std.specs.BTreeMap.{is_at}
use Rattle.std.specs.List.{list_any}
use Rattle.query_tree.specs.declared.query.Query.{Query}
use Rattle.query_tree.specs.Order.{query_cmp}
use Rattle.request_form.specs.declared.request.Filter.{Filter}
use Rattle.request_form.specs.Params.{values_of}
use Rattle.request_form.specs.Requests.{query_in}
use Rattle.request_form.specs.Filtering.{has_query}
use Rattle.request_form.proofs.Filters.{adding, adding_begins}
use Rattle.request_form.proofs.request.read_filters.Goals as goal

pub loop-param-init : goal.loop-param-init
loop-param-init c =
    let reads = query_in c.args.schema.now.list c.args.df c.args.op c.args.most in
    let texts = values_of (codes "fq") c.args.params.now in
    record {
      whole = ap (λ (fs : List Filter). adding reads 1 texts fs) c.new-filters.ensures.items ∙ adding_begins reads texts;
      known = λ q. ap (λ (ks : List Query). list_any (is_at (query_cmp q)) ks) c.new-seen.ensures.empty ∙ ap (λ (fs : List Filter). has_query fs q) (sym c.new-filters.ensures.items);
      within = omega arith;
    }

-- The tables of contents whose bytes stand in a pack, as the schema has them.
pub use Rattle.store_schema.specs.PlaceTables.{pack_table, contents_table, places_table}

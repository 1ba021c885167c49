pub mod PrefixLaws

-- The root of the laws: what keys tell of two items that are not joined.
pub mod Differing
pub mod KeyLaws
pub mod PivotLaws
